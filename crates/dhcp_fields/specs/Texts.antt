-- The texts of names and of options.
use Rattle.std.specs.Prelude.{◌==◌, ◌&&◌, ◌||◌, [], ◌∷◌, ◌++◌, List, None, Option, Some, ℕ, codes, decimal, flat_map}
use Rattle.std.specs.Prelude.{if◌then◌else◌, nat_le}
use Rattle.dhcp_wire.specs.Dhcpv4OptionDisplay.{character}
use Rattle.dhcp_wire.specs.Dhcpv4OptionTable.{name_of}

-- the bytes before the first zero, or all where there is none
abbrev pub before_zero : List ℕ → List ℕ
before_zero [] = []
before_zero (b ∷ bs) = if b == 0 then [] else b ∷ before_zero bs

-- a text as it stands between the quotation marks of an option's own text: visible characters, and others escaped
unfoldable pub escaped : List ℕ → List ℕ
escaped bytes = flat_map character bytes

-- a byte of a key: a digit or a small letter; others are underscores
abbrev pub key_byte : ℕ → ℕ
key_byte b = if (nat_le 48 b && nat_le b 57) || (nat_le 97 b && nat_le b 122) then b else 95

-- a name as a key, as `host_name` for `host-name`
unfoldable pub key_text : List ℕ → List ℕ
key_text name = flat_map (λ b. key_byte b ∷ []) name

-- what an option of this kind is called: by its name, or by its number where it has none, as `option_224`
abbrev pub label_or : Option (List ℕ) → ℕ → List ℕ
label_or None kind = codes "option_" ++ decimal kind
label_or (Some name) kind = key_text name

abbrev pub option_label : ℕ → List ℕ
option_label kind = label_or (name_of kind) kind
