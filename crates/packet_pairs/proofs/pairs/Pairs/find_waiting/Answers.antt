-- Only keys with the same sum are compared.
use Rattle.std.proofs.Common.{◌≡◌, ◌<◌, ap, arith, length, rules}
use Rattle.std.proofs.lemmas.List.{length-map}
use Rattle.packet_pairs.specs.Key.{key_of}
use Rattle.packet_pairs.specs.private.Sums.{sum_in}
use Rattle.packet_pairs.proofs.Places.{found_at}
use Rattle.packet_pairs.proofs.Sums.{none_before, none_with}
use Rattle.packet_pairs.proofs.pairs.Pairs.find_waiting.Goals as goal

pub returns-in_default-clause-none : goal.returns-in_default-clause-none
returns-in_default-clause-none c _ =
    let all = c.args.self.now in
    none_with (key_of c.args.key.now) all.waiting.items all.sums.items c.args.sum c.place_of.result all.summed
    c.requires c.place_of.ensures.value (search rules)

pub returns-then-is-clause-some : goal.returns-then-is-clause-some
returns-then-is-clause-some c =
    let all = c.args.self.now in
    let within : c.in-Some.place < length all.waiting.items =
    omega (arith, c.in-Some.ensures.bound, ap length all.summed, length-map all.waiting.items sum_in) in
    let same : key_of c.index.result.now.key ≡ key_of c.args.key.now = search rules in
    found_at (key_of c.args.key.now) all.waiting.items c.in-Some.place c.index.result.now within c.index.ensures same
    (none_before (key_of c.args.key.now) all.waiting.items all.sums.items c.args.sum c.in-Some.place
    c.place_of.result all.summed c.requires c.place_of.ensures.value (search rules))
