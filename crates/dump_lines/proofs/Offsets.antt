-- The numbers that offsets are.
use Rattle.std.proofs.Common.{◌≡◌, ℕ, ◌+◌, ◌*◌, ◌-◌, ◌<◌, ◌≤◌, Bool, true, false, List, [], ◌∷◌, length, get_or, drop}
use Rattle.std.proofs.Common.{Option, None, refl, arith, add-one, drop-cons}
use Rattle.std.proofs.lemmas.Bool.{le-leb, lt-leb}
use Rattle.std.specs.Prelude.{◌&&◌, nat_le, if◌then◌else◌}
use Rattle.dump_lines.specs.Words.{number_behind, packet_offset}

-- a number that is too great stays so
grows : (n d : ℕ) → 65535 < n → 65535 < 10 * n + d
grows n d h = omega (arith, h)

none_either : (b : Bool) (number : Option ℕ) → packet_offset number ≡ None
    → packet_offset (if b then number else None) ≡ None
none_either true number none = none
none_either false number none = refl

pub offset-great : (n : ℕ) (digits : List ℕ) → 65535 < n → packet_offset (number_behind n digits) ≡ None
offset-great n [] great = rw (lt-leb n 65535 great) refl
offset-great n (digit ∷ digits) great =
    none_either (nat_le 48 digit && nat_le digit 57) _
    (offset-great (10 * n + (digit - 48)) digits (grows n (digit - 48) great))

-- one digit more
module _ (n i : ℕ) (text : List ℕ) (within : i < length text) where
  rest_is : drop i text ≡ get_or text i 0 ∷ drop (i + 1) text
  rest_is = rw add-one (drop-cons text i 0 within)

  pub offset-digit : 48 ≤ get_or text i 0 → get_or text i 0 ≤ 57
      → packet_offset (number_behind n (drop i text)) ≡ packet_offset
      (number_behind (10 * n + (get_or text i 0 - 48)) (drop (i + 1) text))
  offset-digit least most = rw (rest_is, le-leb 48 (get_or text i 0) least, le-leb (get_or text i 0) 57 most) refl
