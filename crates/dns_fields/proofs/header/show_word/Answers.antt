-- The flags, the kind of query and the outcome.
use Rattle.packet_fields.proofs.Fields.{◌and◌, prints_last}
use Rattle.dns_fields.proofs.header.show_word.Goals as goal

pub returns : goal.returns
returns g c =
    prints_last _ _ c.show_rcode.result (c.in_ok-show_flags.ensures and c.in_ok-show_opcode.ensures)
    c.show_rcode.ensures
