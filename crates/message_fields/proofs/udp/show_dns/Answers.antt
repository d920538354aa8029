-- The fields, and what of them is told.
use Rattle.message_fields.proofs.udp.show_dns.Goals as goal

pub returns : goal.returns
returns g c =
    let (items, are, printed) = c.in_ok-unread.ensures in
    (items, (c.in_ok-unread.unread, are, c.of_dns.ensures), printed)
