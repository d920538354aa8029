-- Hexadecimal digits are ASCII.
use Rattle.wirebase.proofs.Words.{IsAscii, lower_digits, subst, sym}
use Rattle.hex.proofs.HexLemmas.{IsAscii-encode_with}
use Rattle.wirebase.proofs.HexDigits.{lower-ascii}
use Rattle.wirebase.proofs.text.hexadecimal.put_chunk.Goals as goal

pub put-requires : goal.put-requires
put-requires g c =
    subst IsAscii (sym c.encode.ensures)
    (IsAscii-encode_with lower_digits c.args.octets.now lower-ascii)
