-- The head, what the error tells, and what it quotes.
use Rattle.packet_fields.proofs.Fields.{◌and◌, prints_last}
use Rattle.icmp_fields.proofs.icmp6.show_quoting.Goals as goal

pub returns : goal.returns
returns g c =
    let head = rw c.number.ensures at c.in_ok-show_head.ensures in
    prints_last _ _ _ (head and c.in_ok-show_told.ensures) c.show_ipv6_quote.ensures
