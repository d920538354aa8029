-- What the digits of a word spell, and that a word of anything else spells nothing.
use Rattle.std.proofs.Common.{◌≡◌, ◌≢◌, ℕ, Bool, true, false, List, [], ◌∷◌, length, codes, Option, Some, None, refl}
use Rattle.std.proofs.Common.{sym, ne_eqb}
use Rattle.std.specs.List.{list_all}
use Rattle.std.specs.Prelude.{◌==◌, ◌&&◌, if◌then◌else◌, bytes_eq, is_some}
use Rattle.hex.specs.Hex.{hex_digit_value, is_hex_digit}
use Rattle.dump_lines.specs.Words.{address_of, with_octet, spelled_by, word_of}
use Rattle.dump_lines.specs.private.Parts.{is_length}

-- one octet that is not a digit, among two or among those after them
bad_pair : (a b : Option ℕ) (rest : Option (List ℕ)) (others : Bool)
    → (others ≡ false → rest ≡ None) → is_some a && (is_some b && others) ≡ false → with_octet a b rest ≡ None
bad_pair None b rest others none e = refl
bad_pair (Some h) None rest others none e = refl
bad_pair (Some h) (Some l) rest others none e = rw (none e) refl

pub spelled_by-bad : (text : List ℕ) → list_all is_hex_digit text ≡ false → spelled_by text ≡ None
spelled_by-bad [] e = absurd (cc e)
spelled_by-bad (digit ∷ []) e = refl
spelled_by-bad (high ∷ low ∷ rest) e =
    bad_pair (hex_digit_value high) (hex_digit_value low) (spelled_by rest) (list_all is_hex_digit rest)
    (spelled_by-bad rest) e

-- a word that is no dash
tested : (b d : Bool) (spelled : Option (List ℕ)) → (d ≡ false → spelled ≡ None) → b && d ≡ false
    → None ≡ (if b then spelled else None)
tested true d spelled none e = sym (none e)
tested false d spelled none e = refl

module _ (text : List ℕ) (other : bytes_eq text (codes "-") ≡ false) where
  pub word_of-none : is_length (length text) && list_all is_hex_digit text ≡ false → None ≡ word_of text
  word_of-none e =
      rw other (tested (is_length (length text)) (list_all is_hex_digit text) (spelled_by text) (spelled_by-bad text) e)

-- an address
pub address_of-none : (text : List ℕ) → list_all is_hex_digit text ≡ false → None ≡ address_of text
address_of-none text bad = at (length text == 32)
  where
    at : (b : Bool) → None ≡ (if b then spelled_by text else None)
    at true = sym (spelled_by-bad text bad)
    at false = refl

pub address_of-length : (text : List ℕ) → length text ≢ 32 → None ≡ address_of text
address_of-length text other = rw (ne_eqb (length text) 32 other) refl
