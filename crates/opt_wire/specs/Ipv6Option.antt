-- One option of an IPv6 extension header (RFC 8200 section 4.2).
--
--  0                   1
--  0 1 2 3 4 5 6 7 8 9 0 1 2 3 4 5 ..
-- +---------------+---------------+- -
-- |  Option Type  | Opt Data Len  | Option Data, as many bytes
-- +---------------+---------------+- -
--
-- A Pad1 is its type alone.
use Rattle.std.specs.Prelude.{◌≡◌, ◌≢◌, ℕ, ◌+◌, ◌*◌, ◌≤◌, ◌<◌, ◌^◌, List, [], ◌∷◌, ◌++◌, length, take, replicate}
use Rattle.std.specs.Borrow.{Bor}
use Rattle.opt_wire.specs.Words.{Field, Format, IsProper, Reaches, RoundTrips, RouterAlert, be16, be8, byte_of, field}
use Rattle.opt_wire.specs.Words.{fields, over}
use Rattle.opt_wire.specs.declared.ipv6option.Ipv6Option.{Ipv6Option}
use Rattle.opt_wire.specs.declared.ipv6option.tables.Type.{«Type» as Kind}
use Rattle.opt_wire.specs.declared.ipv6option.Repr.{Repr}
use Rattle.opt_wire.specs.Ipv6OptionTables.{type_number, type_rows, type_of, alert_number, alert_rows, alert_of}

-- the buffer of a view, and the view with another buffer
abbrev pub inner : {T : Type 0} → Ipv6Option T → T
inner view = view.buffer

abbrev pub with_inner : {T : Type 0} → Ipv6Option T → T → Ipv6Option T
with_inner view buffer = record view { buffer = buffer }

abbrev pub view_octets : Ipv6Option (Bor (List ℕ)) → List ℕ
view_octets view = (inner view).now

-- the fields
abbrev pub option_type_field : Field
option_type_field = field 0 1

abbrev pub opt_data_len_field : Field
opt_data_len_field = field 1 2

abbrev pub option_data_field : List ℕ → Field
option_data_field bytes = field 2 (2 + byte_of opt_data_len_field bytes)

-- the bytes begin with a whole option: a Pad1, or a type, a length and as many bytes of data
abbrev pub BeginsWhole : List ℕ → Type 0
BeginsWhole bytes =
    Reaches option_type_field bytes × (byte_of option_type_field bytes ≢ 0 → Reaches (option_data_field bytes) bytes)

-- an option by its content: padding, a router alert (RFC 2711), or a type, a length and data
pub data OptionValue : Type 0 where
  pad1 : OptionValue
  pad_n : ℕ → OptionValue
  router_alert : RouterAlert → OptionValue
  unknown : Kind → ℕ → List ℕ → OptionValue

abbrev pub value_of : Repr → OptionValue
value_of Repr.Pad1 = pad1
value_of (Repr.PadN n) = pad_n n
value_of (Repr.RouterAlert a) = router_alert a
value_of (Repr.Unknown k n d) = unknown k n d.now

-- its fields, and its text
abbrev pub option_fields : OptionValue → List (List ℕ)
option_fields pad1 = be8 0 ∷ []
option_fields (pad_n n) = be8 1 ∷ be8 n ∷ replicate n 0 ∷ []
option_fields (router_alert a) = be8 5 ∷ be8 2 ∷ be16 (alert_number a) ∷ []
option_fields (unknown k n d) = be8 (type_number k) ∷ be8 n ∷ take n d ∷ []

abbrev pub text : OptionValue → List ℕ
text v = fields (option_fields v)

-- the bytes that it takes by the length that it counts, whatever data it holds
abbrev pub text_len : OptionValue → ℕ
text_len pad1 = 1
text_len (pad_n n) = 2 + n
text_len (router_alert a) = 4
text_len (unknown k n d) = 2 + n

-- it holds as many bytes of data as it counts
abbrev pub HasData : OptionValue → Type 0
HasData (unknown k n d) = n ≤ length d
HasData _ = Unit {0}

-- The grammar (RFC 8200 section 4.2, RFC 2711 section 2.1): these bytes are one option of this value: a type, the
-- number of bytes of its data, and that data; a Pad1 is its type alone. The contents of padding are not checked.
abbrev pub IsOption : List ℕ → OptionValue → Type 0
IsOption w pad1 = w ≡ 0 ∷ []
IsOption w (pad_n n) = (padding : List ℕ) × (w ≡ 1 ∷ n ∷ padding) × (length padding ≡ n)
IsOption w (router_alert a) =
    (high : ℕ) × (low : ℕ) × (w ≡ 5 ∷ 2 ∷ high ∷ low ∷ []) × (a ≡ alert_of (256 * high + low))
IsOption w (unknown k n d) =
    (t : ℕ) × (w ≡ t ∷ n ∷ d) × (length d ≡ n) × (k ≡ type_of t) × (t ≢ 0) × (t ≢ 1) × (t ≢ 5)

-- the bytes begin with an option
pub record BeginsWith (bytes : List ℕ) (v : OptionValue) : Type 0 where
  pub front : List ℕ
  pub rest : List ℕ
  pub whole : bytes ≡ front ++ rest
  pub option : IsOption front v

-- a value that its own text gives back, except for data past its length
abbrev pub IsCanonical : OptionValue → Type 0
IsCanonical pad1 = Unit {0}
IsCanonical (pad_n n) = n < 256
IsCanonical (router_alert a) = IsProper RouterAlert.Unknown alert_rows a × (alert_number a < 2 ^ 16)
IsCanonical (unknown k n d) =
    IsProper Kind.Unknown type_rows k × (k ≢ Kind.Pad1) × (k ≢ Kind.PadN) × (k ≢ Kind.RouterAlert)
    × (type_number k < 256) × (n < 256) × (n ≤ length d)

-- the normal form: data as long as it is counted
abbrev pub norm : OptionValue → OptionValue
norm (unknown k n d) = unknown k n (take n d)
norm v = v

-- the format; no value is an exception, and what was read holds no more data than it counts
abbrev pub format : Format OptionValue
format = record {
  Reads = BeginsWith;
  Fills = Unit {0};
  text = text;
  IsCanonical = IsCanonical;
  IsException = λ v. ⊥;
  norm = norm;
  IsCut = λ v. ⊥;
}

-- What writing an option over `old` leaves: its text, and what followed it. Where `old` has exactly the option's
-- length, its text is all that is left. A canonical value is read back as its normal form, whatever follows it.
pub record Emits (v : OptionValue) (old new : List ℕ) : Type 0 where
  pub written : new ≡ over old (text v)
  pub exact : length old ≡ text_len v → new ≡ text v
  pub reads_back : IsCanonical v → BeginsWith new (norm v)
  pub round_trips : RoundTrips format v
