-- An answer takes its question out.
use Rattle.std.proofs.Common.{◌<◌, ◌∙◌, List, ap, arith, length, map, refl}
use Rattle.std.proofs.lemmas.List.{length-map}
use Rattle.std.specs.VecDeque.{deque_len}
use Rattle.packet_pairs.specs.Key.{key_of}
use Rattle.packet_pairs.specs.Pairs.{asked_of, remembered, state_of, takes_out}
use Rattle.packet_pairs.specs.Types.{Asked}
use Rattle.packet_pairs.specs.private.Sums.{sum_in}
use Rattle.packet_pairs.proofs.Places.{answers_it, found_known}
use Rattle.packet_pairs.proofs.Sums.{removed_sums}
use Rattle.packet_pairs.proofs.pairs.Pairs.answer.Goals as goal

pub returns-in-Some-remove-clause-sees : goal.returns-in-Some-remove-clause-sees
returns-in-Some-remove-clause-sees c number =
    let old = c.args.self.now in
    answers_it (state_of old) (state_of c.remember.new.self) number c.args.time (key_of c.args.key.now)
    old.waiting.items c.remove.new.self.items c.in-Some.place c.in-Some-remove.asked c.answered-answered.result refl
    c.in-Some.ensures.some c.in-Some-remove.ensures.value c.in-Some-remove.ensures.items c.answered-answered.ensures
    (c.remember.ensures
    ∙ ap (λ (l : List Asked). record {
      waiting = map asked_of c.remove.new.self.items;
      answered = remembered (asked_of c.in-Some-remove.asked) (map asked_of l);
      dropped = old.dropped;
    }) c.try_reserve.ensures.items)

pub returns-then-is_err-clause-memory : goal.returns-then-is_err-clause-memory
returns-then-is_err-clause-memory c =
    takes_out refl
    (found_known (key_of c.args.key.now) (map asked_of c.args.self.now.waiting.items) c.in-Some.place
    c.in-Some.ensures.some)

pub invariant_of-self-in-Some-remove : goal.invariant_of-self-in-Some-remove
invariant_of-self-in-Some-remove c =
    let all = c.args.self.now in
    let taken = c.remove-in-Some-remove in
    let within : c.in-Some.place < deque_len all.sums =
    omega (
      arith,
      c.in-Some-remove.ensures.variant.0 refl,
      all.waiting.ok.0,
      all.sums.ok.0,
      ap length all.summed,
      length-map all.waiting.items sum_in,
    ) in
    record {
      summed =
          removed_sums taken.result all.waiting.items c.remove.new.self.items all.sums.items taken.new.self.items
          c.in-Some.place all.summed c.in-Some-remove.ensures.items (taken.ensures.variant.1 within)
          taken.ensures.items;
    }
