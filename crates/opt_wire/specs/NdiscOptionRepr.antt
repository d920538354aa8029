-- Options of neighbor discovery (RFC 4861 section 4.6) by their content: their text, what is read in a block, and the
-- format.
use Rattle.std.specs.Prelude.{◌≡◌, ◌≢◌, ℕ, ◌+◌, ◌-◌, ◌*◌, ◌/◌, ◌≤◌, ◌<◌, ◌^◌, nat_lt, if◌then◌else◌, List, [], ◌∷◌}
use Rattle.std.specs.Prelude.{◌++◌, codes, decimal, length, replicate}
use Rattle.opt_wire.specs.Words.{Format, IpProtocol, IsProper, RoundTrips, be16, be32, be8, byte_of, bytes_of, fields}
use Rattle.opt_wire.specs.Words.{number_of, over, pieces, protocol_number, protocol_rows}
use Rattle.wirebase.specs.Duration.{micros_of, seconds_of, whole_seconds, duration_text}
use Rattle.wirebase.specs.Hexadecimal.{hex_colons, octets_text}
use Rattle.wirebase.specs.HardwareAddress.{raw_bytes}
use Rattle.wirebase.specs.Ipv6.{IsPacket, payload_field, header_text, header_display}
use Rattle.wirebase.specs.Ipv6Address.{octets_of, address_text, IsLinkLocal}
use Rattle.wirebase.specs.declared.duration.Duration.{Duration}
use Rattle.wirebase.specs.declared.ipv6.Ipv6Repr.{Ipv6Repr}
use Rattle.opt_wire.specs.NdiscOption.{type_field, prefix_len_field, prefix_flags_field, valid_lifetime_field}
use Rattle.opt_wire.specs.NdiscOption.{preferred_lifetime_field, prefix_field, mtu_field, units_in, data_field}
use Rattle.opt_wire.specs.NdiscOption.{link_addr_field, redirected_field, BeginsWithBlock}
use Rattle.opt_wire.specs.NdiscOptionTables.{flag_bits, flags_text, known, IsKnown, HasAddrconf}
use Rattle.opt_wire.specs.declared.ndiscoption.repr.PrefixInformation.{PrefixInformation}
use Rattle.opt_wire.specs.declared.ndiscoption.repr.Repr.{Repr}

-- an option by its content: a link-layer address of the source or of the target, a prefix, a redirected packet by its
-- header and its payload, an MTU, or a type, units and data
pub data OptionValue : Type 0 where
  source : List ℕ → OptionValue
  target : List ℕ → OptionValue
  prefix_information : PrefixInformation → OptionValue
  redirected : Ipv6Repr → List ℕ → OptionValue
  mtu : ℕ → OptionValue
  unknown : ℕ → ℕ → List ℕ → OptionValue

abbrev pub value_of : Repr → OptionValue
value_of (Repr.SourceLinkLayerAddr address) = source (raw_bytes address)
value_of (Repr.TargetLinkLayerAddr address) = target (raw_bytes address)
value_of (Repr.PrefixInformation p) = prefix_information p
value_of (Repr.RedirectedHeader r) = redirected r.header r.«data».now
value_of (Repr.Mtu n) = mtu n
value_of (Repr.Unknown t n d) = unknown t n d.now

-- hosts may make addresses of the prefix (RFC 4862 section 5.5.3, a to c)
pub record IsValidPrefix (p : PrefixInformation) : Type 0 where
  pub autonomous : HasAddrconf p.flags
  pub global : IsLinkLocal p.prefix → ⊥
  pub order : micros_of p.preferred_lifetime ≤ micros_of p.valid_lifetime

-- ---- texts

-- the units of 8 bytes that a given number of bytes take, and the bytes that are left of the last
abbrev pub units : ℕ → ℕ
units count = (count + 7) / 8

abbrev pub padding : ℕ → List ℕ
padding count = replicate (8 * units count - count) 0

abbrev pub link_fields : ℕ → List ℕ → List (List ℕ)
link_fields t address = be8 t ∷ be8 (units (2 + length address)) ∷ address ∷ padding (2 + length address) ∷ []

abbrev pub prefix_fields : PrefixInformation → List (List ℕ)
prefix_fields p =
    be8 3 ∷ be8 4 ∷ be8 p.prefix_len ∷ be8 (flag_bits p.flags)
    ∷ be32 (seconds_of p.valid_lifetime)
    ∷ be32 (seconds_of p.preferred_lifetime)
    ∷ be32 0
    ∷ octets_of p.prefix ∷ []

abbrev pub redirected_fields : Ipv6Repr → List ℕ → List (List ℕ)
redirected_fields h d =
    be8 4 ∷ be8 (units (48 + length d)) ∷ be16 0 ∷ be32 0 ∷ header_text h ∷ d ∷ padding (48 + length d) ∷ []

abbrev pub mtu_fields : ℕ → List (List ℕ)
mtu_fields n = be8 5 ∷ be8 1 ∷ be16 0 ∷ be32 n ∷ []

abbrev pub unknown_fields : ℕ → ℕ → List ℕ → List (List ℕ)
unknown_fields t n d = be8 t ∷ be8 n ∷ d ∷ []

abbrev pub option_fields : OptionValue → List (List ℕ)
option_fields (source address) = link_fields 1 address
option_fields (target address) = link_fields 2 address
option_fields (prefix_information p) = prefix_fields p
option_fields (redirected h d) = redirected_fields h d
option_fields (mtu n) = mtu_fields n
option_fields (unknown t n d) = unknown_fields t n d

abbrev pub text : OptionValue → List ℕ
text v = fields (option_fields v)

-- the bytes that it counts, whatever data it holds
abbrev pub text_len : OptionValue → ℕ
text_len (source address) = 8 * units (2 + length address)
text_len (target address) = 8 * units (2 + length address)
text_len (prefix_information p) = 32
text_len (redirected h d) = 8 * units (48 + length d)
text_len (mtu n) = 8
text_len (unknown t n d) = 8 * n

-- a time whose whole seconds, as it is sent, fit their field
abbrev pub HasSeconds : Duration → Type 0
HasSeconds time = seconds_of time ≤ 4294967295

-- The requirements on a value that is written: seconds that fit, a redirected header that counts the data after it as
-- its payload and as much of it as an option can hold, and data that fills the units that an unknown option counts.
abbrev pub CanEmit : OptionValue → Type 0
CanEmit (source address) = Unit {0}
CanEmit (target address) = Unit {0}
CanEmit (prefix_information p) = HasSeconds p.valid_lifetime × HasSeconds p.preferred_lifetime
CanEmit (redirected h d) = (h.payload_len ≡ length d) × (length d ≤ 1992)
CanEmit (mtu n) = Unit {0}
CanEmit (unknown t n d) = (1 ≤ n) × (2 + length d ≡ 8 * n)

-- ---- what is read in a block

-- a link-layer address of this type
pub record IsLinkAddr (t : ℕ) (bytes address : List ℕ) : Type 0 where
  pub kind : byte_of type_field bytes ≡ t
  pub address_is : address ≡ bytes_of (link_addr_field bytes) bytes

-- a prefix: four units
pub record IsPrefix (bytes : List ℕ) (p : PrefixInformation) : Type 0 where
  pub kind : byte_of type_field bytes ≡ 3
  pub count : units_in bytes ≡ 4
  pub len : p.prefix_len ≡ byte_of prefix_len_field bytes
  pub flags : flag_bits p.flags ≡ known (byte_of prefix_flags_field bytes)
  pub valid : micros_of p.valid_lifetime ≡ 1000000 * number_of valid_lifetime_field bytes
  pub preferred : micros_of p.preferred_lifetime ≡ 1000000 * number_of preferred_lifetime_field bytes
  pub octets : octets_of p.prefix ≡ bytes_of prefix_field bytes

-- a redirected packet: the bytes from byte 8 on begin with an IPv6 packet that is whole
pub record IsRedirected (bytes : List ℕ) (h : Ipv6Repr) (d : List ℕ) : Type 0 where
  pub kind : byte_of type_field bytes ≡ 4
  pub packet : IsPacket (bytes_of (redirected_field bytes) bytes) h
  pub payload : d ≡ bytes_of (payload_field (bytes_of (redirected_field bytes) bytes))
      (bytes_of (redirected_field bytes) bytes)

-- an MTU: one unit
pub record IsMtu (bytes : List ℕ) (n : ℕ) : Type 0 where
  pub kind : byte_of type_field bytes ≡ 5
  pub count : units_in bytes ≡ 1
  pub number : n ≡ number_of mtu_field bytes

-- a type without a name
abbrev pub IsUnnamed : ℕ → Type 0
IsUnnamed t = (t ≢ 1) × (t ≢ 2) × (t ≢ 3) × (t ≢ 4) × (t ≢ 5)

pub record IsUnknown (bytes : List ℕ) (t n : ℕ) (d : List ℕ) : Type 0 where
  pub kind : byte_of type_field bytes ≡ t
  pub unnamed : IsUnnamed t
  pub count : n ≡ units_in bytes
  pub data_is : d ≡ bytes_of (data_field bytes) bytes

-- a block is read as this option; a prefix or an MTU of other units, and a redirected packet that isn't whole, aren't
-- read
abbrev pub IsReading : List ℕ → OptionValue → Type 0
IsReading bytes (source address) = IsLinkAddr 1 bytes address
IsReading bytes (target address) = IsLinkAddr 2 bytes address
IsReading bytes (prefix_information p) = IsPrefix bytes p
IsReading bytes (redirected h d) = IsRedirected bytes h d
IsReading bytes (mtu n) = IsMtu bytes n
IsReading bytes (unknown t n d) = IsUnknown bytes t n d

-- The grammar: the bytes begin with a block, and it is read as this option.
pub record BeginsWith (bytes : List ℕ) (v : OptionValue) : Type 0 where
  pub block : BeginsWithBlock bytes
  pub reading : IsReading bytes v

-- ---- canonical values and the normal form

-- a value that its own text gives back as its normal form
pub record IsCanonicalPrefix (p : PrefixInformation) : Type 0 where
  pub len : p.prefix_len < 256
  pub flags : IsKnown (flag_bits p.flags)
  pub valid : HasSeconds p.valid_lifetime
  pub preferred : HasSeconds p.preferred_lifetime

pub record IsCanonicalRedirected (h : Ipv6Repr) (d : List ℕ) : Type 0 where
  pub proper : IsProper IpProtocol.Unknown protocol_rows h.next_header
  pub protocol : protocol_number h.next_header < 256
  pub hops : h.hop_limit < 256
  pub payload : h.payload_len ≡ length d
  pub small : length d ≤ 1992

abbrev pub IsCanonical : OptionValue → Type 0
IsCanonical (source address) = length address ≤ 8
IsCanonical (target address) = length address ≤ 8
IsCanonical (prefix_information p) = IsCanonicalPrefix p
IsCanonical (redirected h d) = IsCanonicalRedirected h d
IsCanonical (mtu n) = n < 2 ^ 32
IsCanonical (unknown t n d) = IsUnnamed t × (t < 256) × (1 ≤ n) × (n < 256) × (2 + length d ≡ 8 * n)

-- an address fills its option up to 6 bytes, or up to 8
abbrev pub filled : List ℕ → List ℕ
filled address = address ++ replicate ((if nat_lt 6 (length address) then 8 else 6) - length address) 0

-- the normal form: link-layer addresses filled with zeros, and times in whole seconds
abbrev pub norm : OptionValue → OptionValue
norm (source address) = source (filled address)
norm (target address) = target (filled address)
norm (prefix_information p) =
    prefix_information
    (record p {
      valid_lifetime = whole_seconds p.valid_lifetime;
      preferred_lifetime = whole_seconds p.preferred_lifetime;
    })
norm v = v

-- the format; no value is an exception, and what is read is its own normal form
abbrev pub format : Format OptionValue
format = record {
  Reads = BeginsWith;
  Fills = Unit {0};
  text = text;
  IsCanonical = IsCanonical;
  IsException = λ v. ⊥;
  norm = norm;
  IsCut = λ v. ⊥;
}

-- What writing an option over `old` leaves: its text over the front; where `old` has exactly its length, its text
-- alone, and that of a canonical value is read back as its normal form, whatever follows.
pub record Emits (v : OptionValue) (old new : List ℕ) : Type 0 where
  pub written : new ≡ over old (text v)
  pub exact : length old ≡ text_len v → new ≡ text v
  pub reads_back : IsCanonical v → BeginsWith new (norm v)
  pub round_trips : RoundTrips format v

-- ---- the printed text of an option

-- a prefix and a redirected packet, by all that they hold, a payload in hexadecimal
abbrev pub prefix_display : PrefixInformation → List ℕ
prefix_display p =
    pieces (codes "PrefixInformation prefix_len=" ∷ decimal p.prefix_len
    ∷ codes " flags=" ∷ flags_text (flag_bits p.flags)
    ∷ codes " valid_lifetime=" ∷ duration_text p.valid_lifetime
    ∷ codes " preferred_lifetime=" ∷ duration_text p.preferred_lifetime
    ∷ codes " prefix=" ∷ address_text p.prefix ∷ [])

abbrev pub redirected_display : Ipv6Repr → List ℕ → List ℕ
redirected_display h d =
    pieces (codes "RedirectedHeader header=" ∷ header_display h
    ∷ codes " payload_len=" ∷ decimal h.payload_len
    ∷ codes " data=" ∷ octets_text d ∷ [])

-- an option, by all that it holds; of an unknown type the data in hexadecimal
abbrev pub display : OptionValue → List ℕ
display (source address) = codes "NDISC Option: SourceLinkLayer addr=" ++ hex_colons address
display (target address) = codes "NDISC Option: TargetLinkLayer addr=" ++ hex_colons address
display (prefix_information p) =
    pieces (codes "NDISC Option: PrefixInformation prefix=" ∷ address_text p.prefix
    ∷ codes "/" ∷ decimal p.prefix_len
    ∷ codes " flags=" ∷ flags_text (flag_bits p.flags)
    ∷ codes " valid_lifetime=" ∷ duration_text p.valid_lifetime
    ∷ codes " preferred_lifetime=" ∷ duration_text p.preferred_lifetime ∷ [])
display (redirected h d) = codes "NDISC Option: " ++ redirected_display h d
display (mtu n) = codes "NDISC Option: MTU mtu=" ++ decimal n
display (unknown t n d) =
    pieces (codes "NDISC Option: Unknown(" ∷ decimal t ∷ codes ") length=" ∷ decimal n
    ∷ codes " data=" ∷ octets_text d ∷ [])

-- octets that are read as no option
abbrev pub refusal_display : List ℕ
refusal_display = codes "NDISC Option (wire::Error)"
