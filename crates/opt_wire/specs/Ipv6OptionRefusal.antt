-- Why bytes begin with no option (RFC 8200 section 4.2, RFC 2711 section 2.1), and the printed text of that reason.
use Rattle.std.specs.Prelude.{◌≡◌, ◌≢◌, ℕ, ◌+◌, ◌≤◌, ◌<◌, List, [], ◌∷◌, ◌++◌, length, codes, decimal}
use Rattle.opt_wire.specs.Words.{byte_of, pieces}
use Rattle.opt_wire.specs.Ipv6Option.{option_type_field, opt_data_len_field, BeginsWhole, OptionValue, IsOption}
use Rattle.opt_wire.specs.Ipv6Option.{BeginsWith}
use Rattle.opt_wire.specs.Ipv6OptionDisplay.{type_display}
use Rattle.opt_wire.specs.declared.ipv6option.tables.Type.{«Type» as Kind}
use Rattle.opt_wire.specs.declared.ipv6option.refusal.Refusal.{Refusal}

-- the bytes begin with an option
abbrev pub IsRead : List ℕ → Type 0
IsRead bytes = (value : OptionValue) × BeginsWith bytes value

-- the bytes begin with an option, and these bytes follow it
abbrev pub IsBehind : List ℕ → List ℕ → Type 0
IsBehind bytes rest = (front : List ℕ) × (value : OptionValue) × (bytes ≡ front ++ rest) × IsOption front value

-- the first byte is the type of an option with a length: not a Pad1
abbrev pub HasLength : List ℕ → Type 0
HasLength bytes = (1 ≤ length bytes) × (byte_of option_type_field bytes ≢ 0)

-- a whole option whose type has no such length: a router alert other than one of 2 bytes of data
abbrev pub IsMisfit : List ℕ → Kind → ℕ → Type 0
IsMisfit bytes Kind.RouterAlert n = (byte_of option_type_field bytes ≡ 5) × (n ≢ 2)
IsMisfit bytes _ n = ⊥

-- why other bytes are refused: there are none, the length is left out, the data is cut, or its length does not fit the
-- type
abbrev pub Refuses : List ℕ → Refusal → Type 0
Refuses bytes Refusal.Empty = bytes ≡ []
Refuses bytes Refusal.Short = HasLength bytes × (length bytes < 2)
Refuses bytes (Refusal.Cut n) =
    HasLength bytes × (2 ≤ length bytes) × (length bytes < n) × (n ≡ 2 + byte_of opt_data_len_field bytes)
Refuses bytes (Refusal.Length t n) = BeginsWhole bytes × (n ≡ byte_of opt_data_len_field bytes) × IsMisfit bytes t n

abbrev pub refusal_text : Refusal → List ℕ
refusal_text Refusal.Empty = codes "no bytes"
refusal_text Refusal.Short = codes "a type without a length"
refusal_text (Refusal.Cut n) = pieces (codes "fewer than the " ∷ decimal n ∷ codes " bytes that the option counts" ∷ [])
refusal_text (Refusal.Length t n) =
    pieces (codes "a length of " ∷ decimal n ∷ codes " is not allowed for " ∷ type_display t ∷ [])
