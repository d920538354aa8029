-- The characters at the start of a text, as computed: the results of private functions.
use Rattle.std.specs.Prelude.{◌≡◌, ◌+◌, ◌-◌, ◌*◌, ◌==◌, ◌&&◌, [], ◌∷◌, List, None, Option, Some, ℕ, if◌then◌else◌}
use Rattle.std.specs.Prelude.{nat_lt, not}
use Rattle.std.specs.Borrow.{Bor}
use Rattle.std.specs.Char.{is_ascii_digit, is_ascii_graphic}
use Rattle.std.specs.List.{AllByRecursion}
use Rattle.record_wire.specs.Words.{IsLabel}
use Rattle.record_wire.specs.declared.name.text.Behind.{Behind}
use Rattle.record_wire.specs.Labels.{written_all}
use Rattle.record_wire.specs.NameText.{is_special, Spells, IsTextOf}

abbrev pub three_digits : ℕ → ℕ → ℕ → ℕ
three_digits x y z = 100 * (x - 48) + 10 * (y - 48) + (z - 48)

-- the byte of a number of three digits, beginning with this one
abbrev pub numbered_at : ℕ → List ℕ → Option (ℕ × List ℕ)
numbered_at x [] = None
numbered_at x (y ∷ []) = None
numbered_at x (y ∷ z ∷ rest) =
    if is_ascii_digit y && is_ascii_digit z && nat_lt (three_digits x y z) 256 then Some (three_digits x y z, rest)
    else None

-- what follows a backslash
abbrev pub quoted_in : List ℕ → Option (ℕ × List ℕ)
quoted_in [] = None
quoted_in (x ∷ rest) =
    if is_ascii_digit x then numbered_at x rest
    else if is_ascii_graphic x then Some (x, rest)
    else None

-- the byte that the first character of a text denotes, and what follows the character
abbrev pub first_byte : List ℕ → Option (ℕ × List ℕ)
first_byte [] = None
first_byte (x ∷ rest) =
    if x == 92 then quoted_in rest
    else if is_ascii_graphic x && not (is_special x) then Some (x, rest)
    else None

-- what follows the text of a label: the end or a last dot, a dot and then a text, or something else
pub data BehindLabel : Type 0 where
  at_end : BehindLabel
  at_label : List ℕ → BehindLabel
  at_other : BehindLabel

abbrev pub behind_in : List ℕ → BehindLabel
behind_in [] = at_end
behind_in (x ∷ []) = if x == 46 then at_end else at_other
behind_in (x ∷ y ∷ rest) = if x == 46 then at_label (y ∷ rest) else at_other

abbrev pub seen_behind : Behind → BehindLabel
seen_behind Behind.End = at_end
seen_behind (Behind.Label text) = at_label text.now
seen_behind Behind.Other = at_other

-- the first byte, and those after it; the first three, and those after them
abbrev pub first_octet : List ℕ → Option (ℕ × List ℕ)
first_octet [] = None
first_octet (byte ∷ rest) = Some (byte, rest)

abbrev pub first_group : List ℕ → Option (ℕ × ℕ × ℕ × List ℕ)
first_group [] = None
first_group (a ∷ []) = None
first_group (a ∷ b ∷ []) = None
first_group (a ∷ b ∷ c ∷ rest) = Some (a, b, c, rest)

abbrev pub seen_group : Option (ℕ × ℕ × ℕ × Bor (List ℕ)) → Option (ℕ × ℕ × ℕ × List ℕ)
seen_group None = None
seen_group (Some (a, b, c, rest)) = Some (a, b, c, rest.now)

-- a pair without the place of its rest in memory
abbrev pub seen_byte : Option (ℕ × Bor (List ℕ)) → Option (ℕ × List ℕ)
seen_byte None = None
seen_byte (Some (byte, rest)) = Some (byte, rest.now)

abbrev pub seen_label : Option (Bor (List ℕ) × Bor (List ℕ)) → Option (List ℕ × List ℕ)
seen_label None = None
seen_label (Some (label, rest)) = Some (label.now, rest.now)

-- the characters at the start of a text, as many as there are
pub record IsSpelling (text bytes rest : List ℕ) : Type 0 where
  pub spells : Spells text bytes rest
  pub no_more : first_byte rest ≡ None

-- the octets of the labels of a text, at least one
pub record HasLabelsOfText (text octets : List ℕ) : Type 0 where
  pub first : List ℕ
  pub more : List (List ℕ)
  pub each : AllByRecursion IsLabel (first ∷ more)
  pub is : IsTextOf (first ∷ more) text
  pub written : octets ≡ written_all (first ∷ more)
