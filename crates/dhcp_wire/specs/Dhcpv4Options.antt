-- The options of a DHCP packet (RFC 2131 section 3, RFC 2132 section 2).
--
--  0                   1
--  0 1 2 3 4 5 6 7 8 9 0 1 2 3 4 5 ..
-- +---------------+---------------+- -
-- |     kind      |    length     | data, as many bytes
-- +---------------+---------------+- -
use Rattle.std.specs.Prelude.{◌≡◌, ◌≢◌, ℕ, ◌<◌, List, [], ◌∷◌, ◌++◌, length, Option, None, Some}
use Rattle.dhcp_wire.specs.declared.dhcpv4.options.DhcpOption.{DhcpOption}

-- an option by its content: its kind, and the bytes of its data
pub record OptionValue : Type 0 where
  pub kind : ℕ
  pub body : List ℕ

abbrev pub option : ℕ → List ℕ → OptionValue
option kind body = record { kind = kind; body = body }

abbrev pub value_of_option : DhcpOption → OptionValue
value_of_option o = option o.kind o.data.now

-- its text
abbrev pub option_text : OptionValue → List ℕ
option_text o = o.kind ∷ length o.body ∷ o.body

-- a kind that data follows: neither padding nor the end mark
pub record IsKind (kind : ℕ) : Type 0 where
  pub no_padding : kind ≢ 0
  pub no_end : kind ≢ 255

-- The options in these bytes, in order. Padding is one byte, and is skipped; the end mark ends the list, and so does
-- the end of the bytes, also where it comes within an option.
pub data Options : List ℕ → List OptionValue → Type 0 where
  none : Options [] []
  ended : {bytes : List ℕ} (rest : List ℕ) → bytes ≡ 255 ∷ rest → Options bytes []
  padded : {bytes : List ℕ} {options : List OptionValue} (rest : List ℕ) → Options rest options → bytes ≡ 0 ∷ rest
      → Options bytes options
  lone : {bytes : List ℕ} (kind : ℕ) → IsKind kind → bytes ≡ kind ∷ [] → Options bytes []
  torn : {bytes : List ℕ} (kind n : ℕ) (rest : List ℕ) → IsKind kind → length rest < n → bytes ≡ kind ∷ n ∷ rest
      → Options bytes []
  goes_on : {bytes : List ℕ} {options : List OptionValue} (o : OptionValue) (rest : List ℕ) → IsKind o.kind
      → Options rest options
      → bytes ≡ option_text o ++ rest → Options bytes (o ∷ options)

-- a call of `next` gives the first option and takes it off; where none is left it gives None, and none is left
-- afterwards
abbrev pub GivesFirst : List OptionValue → Option DhcpOption → List OptionValue → Type 0
GivesFirst old None new = (old ≡ []) × (new ≡ [])
GivesFirst old (Some o) new = old ≡ value_of_option o ∷ new
