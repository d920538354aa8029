-- One more is remembered.
use Rattle.std.proofs.Common.{◌≡◌, ◌∷◌, List, ap, map, rules, true}
use Rattle.packet_pairs.specs.Key.{key_of}
use Rattle.packet_pairs.specs.Pairs.{AskedValue, asked_of, goes_to_many}
use Rattle.packet_pairs.proofs.Places.{remembers}
use Rattle.packet_pairs.proofs.pairs.Pairs.remember.Goals as goal

pub returns-then-goes_to_many : goal.returns-then-goes_to_many
returns-then-goes_to_many c =
    let items = c.args.self.now.answered.items in
    let pushed : c.push_front-pushed.new.self.items ≡ c.args.asked ∷ items = search rules in
    let many : goes_to_many (key_of c.args.asked.key) ≡ true = search rules in
    ap (λ (l : List AskedValue). record {
      waiting = map asked_of c.args.self.now.waiting.items;
      answered = l;
      dropped = c.args.self.now.dropped;
    })
    (remembers c.args.asked items c.push_front-pushed.new.self.items c.truncate.new.self.items many pushed
    c.truncate.ensures.items)
