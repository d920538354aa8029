use Rattle.dhcp_options.proofs.Words.{◌≡◌, answers_left, length, octets_among}
use Rattle.dhcp_options.proofs.joined.KindPartsIterator.next.Given as goal

-- the parts that are left are those that were to come
abbrev pub invariant-loop-answer : goal.invariant-loop-answer
invariant-loop-answer l = octets_among l.self-inside.kind (answers_left l.self-inside.areas) ≡ l.fn.self

abbrev pub decreases-loop-answer : goal.decreases-loop-answer
decreases-loop-answer l = length (answers_left l.self-inside.areas)
