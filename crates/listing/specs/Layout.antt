-- How the program lays out what it prints: lines and fields, and the values after a field's name.
use Rattle.std.specs.Prelude.{◌≡◌, ◌⊎◌, ◌++◌, List, None, Option, Some, ℕ, codes, decimal}
use Rattle.listing.specs.Words.{Duration}
use Rattle.wirebase.specs.Duration.{millis_of}

-- ---- lines and fields

-- a line of its own: a variant's name, a value that has none, or an answer that is no value
unfoldable pub line : List ℕ → List ℕ
line text = text ++ codes "\n"

-- a field, or a variant with one unnamed value, as `name=value`
unfoldable pub field : List ℕ → List ℕ → List ℕ
field name value = name ++ codes "=" ++ value ++ codes "\n"

-- a field of a part, after the part's name with its dot; of a value that is no part, after nothing
unfoldable pub part_field : List ℕ → List ℕ → List ℕ → List ℕ
part_field part name value = part ++ field name value

-- ---- values: numbers in decimal digits, IPv4 addresses with dots, other addresses as octets, and names as they are

-- a time: its whole milliseconds
abbrev pub millis_text : Duration → List ℕ
millis_text time = decimal (millis_of time)

-- what may be missing: `none`
abbrev pub text_or_none : {V : Type 0} → (V → List ℕ) → Option V → List ℕ
text_or_none text None = codes "none"
text_or_none text (Some value) = text value

-- ---- what a packet prints

-- the listing of the value that the grammar has for its octets, or `refused` exactly where it has none
abbrev pub IsListingOrRefused : {V : Type 0} → (V → Type 0) → (V → List ℕ) → List ℕ → Type 0
IsListingOrRefused {V = V} IsValue listing text =
    ((value : V) × IsValue value × (text ≡ listing value))
    ⊎ (((value : V) → IsValue value → ⊥) × (text ≡ line (codes "refused")))
