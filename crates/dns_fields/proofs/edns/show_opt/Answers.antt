-- What the record says, or why its name can't be read.
use Rattle.std.proofs.Common.{◌≡◌, ◌∙◌, ap, sym}
use Rattle.record_wire.specs.Edns.{answers_in, edns_of}
use Rattle.record_wire.proofs.EdnsTiles.{tile_of}
use Rattle.dns_fields.specs.Edns.{says, says_for_no_name, unread_option}
use Rattle.dns_fields.proofs.edns.show_opt.Goals as goal

pub returns-in_ok-show_says-in-Ok : goal.returns-in_ok-show_says-in-Ok
returns-in_ok-show_says-in-Ok g c =
    let octets = c.args.edns.now.options.now in
    let cut : c.why_cut.result ≡ unread_option (answers_in octets) =
    c.why_cut.ensures ∙ ap unread_option (sym (c.options.ensures.unique (answers_in octets) (tile_of octets))) in
    rw cut (
      _,
      says (edns_of c.args.edns.now) (answers_in octets) _ c.requires c.in-Ok.ensures.sound (tile_of octets),
      c.in_ok-show_says-in-Ok.ensures,
    )

pub returns-in_ok-show_refused_record-in-Err : goal.returns-in_ok-show_refused_record-in-Err
returns-in_ok-show_refused_record-in-Err g c =
    let (e, is, printed) = c.in_ok-show_refused_record-in-Err.ensures in (
      e,
      says_for_no_name c.in-Err.refusal (λ labels names. c.in-Err.ensures.complete labels names)
          c.in-Err.ensures.told e is,
      printed,
    )
