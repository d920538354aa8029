-- The next question has the key, or has it not.
use Rattle.std.proofs.Common.{◌≡◌, ◌≢◌, ◌<◌, length, rules}
use Rattle.packet_pairs.specs.Key.{key_of}
use Rattle.packet_pairs.proofs.Places.{found_at, unknown_more}
use Rattle.packet_pairs.proofs.search.find.Goals as goal

pub returns-then-is-clause-some : goal.returns-then-is-clause-some
returns-then-is-clause-some c =
    let within : c.loop-place.place < length c.args.questions.now.items = search rules in
    let same : key_of c.index.result.now.key ≡ key_of c.args.key.now = search rules in
    found_at (key_of c.args.key.now) c.args.questions.now.items c.loop-place.place c.index.result.now within
    c.index.ensures same c.loop-place.invariant

pub loop-place-preserved : goal.loop-place-preserved
loop-place-preserved c =
    let within : c.loop-place.place < length c.args.questions.now.items = search rules in
    let other : key_of c.index.result.now.key ≢ key_of c.args.key.now = search rules in
    unknown_more (key_of c.args.key.now) c.args.questions.now.items c.loop-place.place c.index.result.now within
    c.index.ensures other c.loop-place.invariant
