-- Numbers in the byte order of the machine that wrote a file.
use Rattle.std.specs.Int.{w64, cast_signed}
use Rattle.std.specs.Prelude.{ℕ, ◌-◌, ℤ, List}
use Rattle.byteorder.specs.Endian.{big_number, little_number}
use Rattle.wirebase.specs.Bytes.{Field, bytes_of}
use Rattle.capture.specs.Types.{Order}

-- the number in the first n bytes
abbrev pub number : Order → ℕ → List ℕ → ℕ
number Order.Big n bytes = big_number n bytes
number Order.Little n bytes = little_number n bytes

-- the signed number in the first eight bytes, in two's complement
abbrev pub signed_number : Order → List ℕ → ℤ
signed_number order bytes = cast_signed w64 (number order 8 bytes)

-- the number in a field
abbrev pub number_in : Order → Field → List ℕ → ℕ
number_in order f bytes = number order (f.to - f.from) (bytes_of f bytes)
