-- An answer to a question that was answered before.
use Rattle.std.proofs.Common.{refl}
use Rattle.packet_pairs.specs.Key.{key_of}
use Rattle.packet_pairs.specs.Pairs.{state_of}
use Rattle.packet_pairs.proofs.Places.{answers_it_too}
use Rattle.packet_pairs.proofs.pairs.Pairs.answer_too.Goals as goal

pub returns-in-Some : goal.returns-in-Some
returns-in-Some c number =
    answers_it_too (state_of c.args.self.now) number c.args.time (key_of c.args.key.now) c.args.self.now.answered.items
    c.in-Some.place c.index.result.now c.answered.result refl c.requires c.in-Some.ensures.some c.index.ensures
    c.answered.ensures
