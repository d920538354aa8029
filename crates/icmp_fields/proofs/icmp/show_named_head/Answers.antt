-- The type, and the code.
use Rattle.std.proofs.Common.{◌≡◌, rules}
use Rattle.packet_fields.proofs.Fields.{prints_last}
use Rattle.icmp_fields.proofs.icmp.show_named_head.Goals as goal

pub returns : goal.returns
returns g c =
    let type_is : c.from.result ≡ c.args.type_ = search rules in
    let code_is : c.from-2.result ≡ c.args.code = search rules in
    prints_last _ _ _ (rw type_is at c.in_ok-named.ensures) (rw code_is at c.named-2.ensures)
