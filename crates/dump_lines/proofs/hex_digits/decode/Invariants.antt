-- The octets so far, and those of the digits that are left.
use Rattle.std.proofs.Common.{◌≡◌, ◌*◌, ◌++◌, take, drop}
use Rattle.dump_lines.proofs.Turning.{octets_of}
use Rattle.dump_lines.proofs.hex_digits.decode.Given as goal

abbrev pub invariant-words : goal.invariant-words
invariant-words l = take (4 * l.i) l.octets ++ octets_of (drop (8 * l.i) l.text) ≡ octets_of l.text

abbrev pub invariant-octets : goal.invariant-octets
invariant-octets l = take l.i l.octets ++ octets_of (drop (2 * l.i) l.text) ≡ octets_of l.text
