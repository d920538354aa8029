-- All of them.
use Rattle.std.proofs.Common.{arith}
use Rattle.dump_captures.proofs.Vlans.{words_are}
use Rattle.dump_captures.proofs.members.put_words.Goals as goal

pub returns : goal.returns
returns g c = rw (words_are c.args.tags.now (omega (arith, c.if-tags-lt-TAG_LEN.false))) at c.put_numbers.ensures
