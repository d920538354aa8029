-- A question that waits is asked again.
use Rattle.std.proofs.Common.{refl}
use Rattle.packet_pairs.specs.Key.{key_of}
use Rattle.packet_pairs.specs.Pairs.{state_of}
use Rattle.packet_pairs.proofs.Places.{asks_more}
use Rattle.packet_pairs.proofs.Sums.{same_sums}
use Rattle.packet_pairs.proofs.pairs.Pairs.ask.Goals as goal

pub returns-in-Some-clause-sees : goal.returns-in-Some-clause-sees
returns-in-Some-clause-sees c =
    asks_more (state_of c.args.self.now) c.args.number c.args.time (key_of c.args.key) c.args.self.now.waiting.items
    c.in-Some.place c.index_mut.result.now c.ask_again.new.self refl c.in-Some.ensures.some c.index_mut.ensures.value
    c.ask_again.ensures

pub invariant_of-self : goal.invariant_of-self
invariant_of-self c =
    let all = c.args.self.now in
    record {
      summed =
          same_sums all.waiting.items all.sums.items c.in-Some.place c.index_mut.result.now c.ask_again.new.self
          all.summed c.index_mut.ensures.value c.ask_again.ensures;
    }
