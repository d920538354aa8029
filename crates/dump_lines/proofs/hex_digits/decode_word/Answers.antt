-- All digits of a word are turned at once.
use Rattle.std.proofs.Common.{arith}
use Rattle.dump_lines.proofs.Turning.{joined_in_word, decoded}
use Rattle.dump_lines.proofs.hex_digits.decode_word.Goals as goal

pub overflow_mul-octets : goal.overflow_mul-octets
overflow_mul-octets c =
    let word = c.from_le_bytes-word in
    omega (arith, joined_in_word c.args.digits.now c.told-digits c.requires word.result word.ensures)

pub overflow_add-octets : goal.overflow_add-octets
overflow_add-octets c =
    let word = c.from_le_bytes-word in
    omega (arith, joined_in_word c.args.digits.now c.told-digits c.requires word.result word.ensures)

pub returns : goal.returns
returns c =
    rw c.to_le_bytes.ensures
    (decoded c.args.digits.now c.told-digits c.requires c.from_le_bytes-word.result c.from_le_bytes-word.ensures)
