use Rattle.std.proofs.Common.{arith, refl}
use Rattle.wirebase.specs.Bytes.{part}
use Rattle.header_wire.proofs.icmpv4.reading.read_advertisement.Goals as goal

pub returns-clause-sound : goal.returns-clause-sound
unfolding part
returns-clause-sound c = record {
  count = refl;
  words = omega (arith, c.if-words-lt-ENTRY_WORDS.false);
  lifetime = c.u16_at.ensures;
  entries = refl;
}
