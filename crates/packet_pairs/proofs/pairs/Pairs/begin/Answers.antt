-- The question that was asked first makes room for another.
use Rattle.std.proofs.Common.{◌≤◌, arith, length, map}
use Rattle.std.proofs.lemmas.List.{length-map}
use Rattle.packet_pairs.specs.Key.{key_of}
use Rattle.packet_pairs.specs.Pairs.{asked_of, most_waiting, state_of}
use Rattle.packet_pairs.proofs.Places.{begins_with_drop}
use Rattle.packet_pairs.proofs.pairs.Pairs.begin.Goals as goal

pub returns-clause-sees : goal.returns-clause-sees
returns-clause-sees c =
    let many : most_waiting ≤ length (map asked_of c.args.self.now.waiting.items) =
    omega (
      arith,
      length-map c.args.self.now.waiting.items asked_of,
      c.args.self.now.waiting.ok.0,
      c.len.ensures,
      c.if-len-lt-MOST_WAITING.false,
    ) in
    begins_with_drop c.append-2.result (state_of c.args.self.now) (state_of c.make_room.new.self)
    (state_of c.append-2.new.self) c.args.number c.args.time (key_of c.args.key) c.requires.unknown many
    c.make_room.ensures.state c.append-2.ensures.answer c.append-2.ensures.state
