-- The record, or nothing.
use Rattle.message_brief.specs.Dns.{node_reads, node_reads_not}
use Rattle.message_brief.proofs.dns.found.told_by_node.Goals as goal

pub returns-in-Ok : goal.returns-in-Ok
returns-in-Ok c =
    rw (c.node_by.ensures, c.layout_of.ensures, c.word_of.ensures, c.octets_of.ensures)
    (node_reads _ c.in-Ok.ensures.sound)

pub returns-in-Err : goal.returns-in-Err
returns-in-Err c = node_reads_not (λ (labels, names). c.in-Err.ensures.complete labels names)
