-- Bytes of labels and of strings in a zone file (RFC 1035 section 5.1).
use Rattle.std.specs.Prelude.{◌/◌, ◌%◌, ◌==◌, ◌||◌, ◌&&◌, [], ◌∷◌, ◌++◌, Bool, List, ℕ, codes, decimal, false}
use Rattle.std.specs.Prelude.{if◌then◌else◌, nat_le}
use Rattle.std.specs.Char.{is_ascii_graphic}
use Rattle.record_wire.specs.declared.escapes.Escaping.{Escaping}

-- "  $  (  )  .  ;  @  \   have a meaning of their own in a label
abbrev pub specials : List ℕ
specials = 34 ∷ 36 ∷ 40 ∷ 41 ∷ 46 ∷ 59 ∷ 64 ∷ 92 ∷ []

abbrev pub is_in : List ℕ → ℕ → Bool
is_in [] byte = false
is_in (x ∷ xs) byte = (byte == x) || is_in xs byte

abbrev pub is_special : ℕ → Bool
is_special byte = is_in specials byte

-- of a string, `"` and `\` have
abbrev pub has_meaning : Escaping → ℕ → Bool
has_meaning Escaping.Label byte = is_special byte
has_meaning Escaping.String byte = byte == 34 || byte == 92

abbrev pub is_visible : Escaping → ℕ → Bool
is_visible Escaping.Label byte = is_ascii_graphic byte
is_visible Escaping.String byte = nat_le 32 byte && nat_le byte 126

-- a byte is written as the first of these that it can be: after a backslash, as itself, by its number
abbrev pub written_by : Bool → Bool → ℕ → List ℕ
written_by meaning visible byte =
    if meaning then codes "\\" ++ byte ∷ []
    else if visible then byte ∷ []
    else codes "\\" ++ decimal (byte / 100) ++ decimal (byte / 10 % 10) ++ decimal (byte % 10)

abbrev pub escaped : Escaping → ℕ → List ℕ
escaped escaping byte = written_by (has_meaning escaping byte) (is_visible escaping byte) byte

-- ---- as they are put: the results of private functions
