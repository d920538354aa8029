-- The first part of the option is one octet, or there is no type.
use Rattle.std.proofs.Common.{◌≡◌, ◌≢◌, ◌∙◌, length, rules, sym}
use Rattle.packet_pairs.proofs.Found.{no_part, no_type, not_one, one_type}
use Rattle.packet_pairs.proofs.lease.type_in.Goals as goal

pub returns-in-None-clause-none : goal.returns-in-None-clause-none
returns-in-None-clause-none c none kind h =
    no_type c.args.octets.now c.of.result c.of.ensures.unique
    (λ n more f. no_part c.of_kind.result c.in-None.ensures.steps.0 n more (c.of_kind.ensures ∙ f)) kind h

pub returns-then-first-ne1-clause-none : goal.returns-then-first-ne1-clause-none
returns-then-first-ne1-clause-none c none kind h =
    let other : length c.in-Some.first.now ≢ 1 = search rules in
    no_type c.args.octets.now c.of.result c.of.ensures.unique
    (λ n more f. not_one c.of_kind.result c.next.new.self c.in-Some.first.now c.in-Some.ensures.steps other n more
    (c.of_kind.ensures ∙ f)) kind h

pub returns-clause-only : goal.returns-clause-only
returns-clause-only c other h =
    let one : length c.in-Some.first.now ≡ 1 = search rules in
    one_type c.args.octets.now c.of.result c.in-Some.first.now c.next.new.self c.of.ensures.unique
    (sym c.of_kind.ensures ∙ c.in-Some.ensures.steps) one other h ∙ sym c.from.ensures.value
