use Rattle.record_wire.proofs.Words.{[], ◌∙◌, ap, eq-eqb, eqb-true, length, sym}
use Rattle.record_wire.proofs.RDataParts.{whole_split, split_whole}
use Rattle.record_wire.proofs.rdata.is_name.Goals as goal

pub returns-in-Ok : goal.returns-in-Ok
returns-in-Ok c = (
  λ t. split_whole c.args.octets.now _ c.in-Ok.rest.now c.in-Ok.ensures.sound
      (eqb-true (length c.in-Ok.rest.now) 0 (sym c.is_empty.ensures ∙ t)),
  λ one.
      let same = c.in-Ok.ensures.complete c.args.octets.now [] (whole_split c.args.octets.now one) in
      c.is_empty.ensures ∙ eq-eqb (length c.in-Ok.rest.now) 0 (ap length same.1),
)

pub returns-in-Err : goal.returns-in-Err
returns-in-Err c = (
  λ t. absurd (cc t),
  λ one. absurd (c.in-Err.ensures.complete c.args.octets.now [] (whole_split c.args.octets.now one)),
)
