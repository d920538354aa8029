use Rattle.record_wire.proofs.RDataRefusals.{some_authority}
use Rattle.record_wire.proofs.rdata.refusal.why_no_authority.Goals as goal

pub returns : goal.returns
returns c =
    let first = c.in-Ok.ensures.sound in
    let second = c.in-Ok-split_name.ensures.sound in (
      _,
      _,
      _,
      _,
      first,
      second,
      λ len.
          let authority = some_authority c.args.octets.now _ _ _ _ first second len in
          c.requires authority.0 authority.1,
    )
