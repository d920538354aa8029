use Rattle.dhcp_wire.proofs.Words.{◌∙◌, arith}
use Rattle.dhcp_wire.proofs.Dhcpv4Padding.{word_begins, word_passes}
use Rattle.dhcp_wire.proofs.dhcpv4.options.past_words.Goals as goal

pub returns-then-word-ne0-clause-same : goal.returns-then-word-ne0-clause-same
returns-then-word-ne0-clause-same c =
    (word_begins c.loop-rest.rest.now c.read_u64-word.result (omega arith) c.are_bytes.ensures c.read_u64-word.ensures
    c.if-word-ne0.true).same
    ∙ c.loop-rest.invariant

pub returns-then-word-ne0-clause-none : goal.returns-then-word-ne0-clause-none
returns-then-word-ne0-clause-none c =
    (word_begins c.loop-rest.rest.now c.read_u64-word.result (omega arith) c.are_bytes.ensures c.read_u64-word.ensures
    c.if-word-ne0.true).none

pub loop-rest-preserved : goal.loop-rest-preserved
loop-rest-preserved c =
    word_passes c.loop-rest.rest.now c.read_u64-word.result (omega arith) c.read_u64-word.ensures c.if-word-ne0.false
    ∙ c.loop-rest.invariant
