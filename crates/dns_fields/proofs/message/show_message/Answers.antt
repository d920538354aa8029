-- The header, and then the list; or what there is.
use Rattle.std.proofs.Common.{◌≤◌, arith, length, refl}
use Rattle.dns_fields.specs.Message.{has_no_header}
use Rattle.dns_fields.proofs.Entries.{message_printed}
use Rattle.dns_fields.proofs.message.show_message.Goals as goal

pub returns-in_default : goal.returns-in_default
returns-in_default g c =
    let short : 12 ≤ length c.args.octets.now → ⊥ = λ reaches. cc (c.in_default.ensures.accepts.1 reaches) in
    (_, has_no_header (omega (arith, short)), c.in_ok-show_no_header.ensures)

pub returns : goal.returns
returns g c =
    message_printed c.args.form c.args.kind c.args.octets.now _ _ _ c.show_list.result (c.in-Ok.ensures.accepts.0 refl)
    c.in_ok-show_header.ensures (rw c.in-Ok.ensures.buffer at c.show_list.ensures)
