-- What private functions and models need; no public clause rests on it.
use Rattle.std.specs.Borrow.{Bor}
use Rattle.std.specs.Prelude.{◌<◌, [], ◌∷◌, List, None, Option, Some, ℕ, drop, if◌then◌else◌, length, nat_le}
use Rattle.record_wire.specs.Fields.{MapValue}
use Rattle.record_wire.specs.NameText.{Spells}
use Rattle.record_wire.specs.TextRefusal.{RefusesRest}
use Rattle.record_wire.specs.declared.name.text_refusal.NameTextRefusal.{NameTextRefusal}

abbrev pub seen_map : Option (ℕ × Bor (List ℕ) × Bor (List ℕ)) → Option (MapValue × List ℕ)
seen_map None = None
seen_map (Some (upper, map, rest)) = Some (record { upper = upper; map = map.now }, rest.now)

-- what follows the first string, as it is computed
abbrev pub string_rest : List ℕ → Option (List ℕ)
string_rest [] = None
string_rest (n ∷ rest) = if nat_le n (length rest) then Some (drop n rest) else None

abbrev pub seen_rest : Option (Bor (List ℕ)) → Option (List ℕ)
seen_rest None = None
seen_rest (Some rest) = Some rest.now

-- the rest of a text that does not begin with a label of 1 to 63 bytes: too many characters or none
abbrev pub RefusesLabel : List ℕ → NameTextRefusal → Type 0
RefusesLabel text NameTextRefusal.LongLabel =
    (label : List ℕ) × (rest : List ℕ) × Spells text label rest × (63 < length label)
RefusesLabel text NameTextRefusal.TooLong = ⊥
RefusesLabel text why = RefusesRest text why
