-- Options of messages of neighbor discovery: whole units of 8 bytes, as many as the second byte counts (RFC 4861
-- section 4.6).
--
--  0                   1                   2                   3
--  0 1 2 3 4 5 6 7 8 9 0 1 2 3 4 5 6 7 8 9 0 1 2 3 4 5 6 7 8 9 0 1
-- +---------------+---------------+- - - - - - - - - - - - - - - -
-- |     type      |     units     | data: of types 1 and 2 a link-layer address, of type 14 a nonce, of type 37 a URI
-- +---------------+---------------+- - - - - - - - - - - - - - - -
--
-- Of type 3, a prefix (RFC 4861 section 4.6.2, RFC 6275 section 7.2):
-- +---------------+---------------+---------------+-+-+-+---------+
-- |       3       |       4       | prefix length |L|A|R|reserved |
-- +---------------+---------------+---------------+-+-+-+---------+
-- |                         valid lifetime                        |
-- +---------------------------------------------------------------+
-- |                       preferred lifetime                      |
-- +---------------------------------------------------------------+
-- |                            reserved                           |
-- +---------------------------------------------------------------+
-- |                        prefix, 16 bytes                       |
-- +- - - - - - - -
--
-- Of type 5, the MTU (RFC 4861 section 4.6.4):
-- +---------------+---------------+-------------------------------+
-- |       5       |       1       |            reserved           |
-- +---------------+---------------+-------------------------------+
-- |                              MTU                              |
-- +---------------------------------------------------------------+
--
-- Of type 24, a route (RFC 4191 section 2.3):
-- +---------------+---------------+---------------+-----+---+-----+
-- |      24       |     units     | prefix length |     |Prf|     |
-- +---------------+---------------+---------------+-----+---+-----+
-- |                            lifetime                           |
-- +---------------------------------------------------------------+
-- |                  prefix, 0, 8 or 16 bytes                     |
-- +- - - - - - - -
--
-- Of types 25 and 31, DNS servers and a search list (RFC 8106 sections 5.1 and 5.2):
-- +---------------+---------------+-------------------------------+
-- |   25 or 31    |     units     |            reserved           |
-- +---------------+---------------+-------------------------------+
-- |                            lifetime                           |
-- +---------------------------------------------------------------+
-- |           addresses of 16 bytes, or names and zeros           |
-- +- - - - - - - -
--
-- Of type 38, a NAT64 prefix (RFC 8781 section 4):
-- +---------------+---------------+-------------------------+-----+
-- |      38       |       2       |     scaled lifetime     | PLC |
-- +---------------+---------------+-------------------------+-----+
-- |                        prefix, 12 bytes                       |
-- +- - - - - - - -
use Rattle.std.specs.Prelude.{◌≡◌, ◌↔◌, ℕ, zero, suc, ◌+◌, ◌-◌, ◌*◌, ◌/◌, ◌%◌, ◌<◌, ◌≤◌, Bool, true, false, IsTrue}
use Rattle.std.specs.Prelude.{List, [], ◌∷◌, ◌++◌, length, drop, replicate, slice_index}
use Rattle.wirebase.specs.Bytes.{Field, field, part, number_of}
use Rattle.wirebase.specs.ByteWriter.{be8, be16, be32, fields}
use Rattle.wirebase.specs.Checks.{Check, Fails, Passes, check}
use Rattle.wirebase.specs.Ipv6Address.{octets_of}
use Rattle.neighbor_wire.specs.declared.kind.Kind.{Kind}
use Rattle.neighbor_wire.specs.declared.nat64.Nat64Length.{Nat64Length}
use Rattle.neighbor_wire.specs.declared.nat64.Nat64Prefix.{Nat64Prefix}
use Rattle.neighbor_wire.specs.declared.option.NeighborOption.{NeighborOption}
use Rattle.neighbor_wire.specs.declared.preference.Preference.{Preference}
use Rattle.neighbor_wire.specs.declared.prefix.Prefix.{Prefix}
use Rattle.neighbor_wire.specs.declared.refusal.Refusal.{Refusal}
use Rattle.neighbor_wire.specs.declared.route.Route.{Route}
use Rattle.neighbor_wire.specs.Kind.{kind_of}
use Rattle.neighbor_wire.specs.Names.{octets_in as names_octets}
use Rattle.neighbor_wire.specs.Nat64.{length_code}
use Rattle.neighbor_wire.specs.Preference.{preference_number, preference_in}
use Rattle.neighbor_wire.specs.Servers.{octets_in}

-- ---- values

-- An option by its content: the link-layer addresses of source and target; a prefix with its length, its flags L, A
-- and R, its two lifetimes and its octets; an MTU; a nonce; a route with its prefix length, its preference, its
-- lifetime and the octets of its prefix; DNS servers and a search list, each with a lifetime and octets; a URI; a
-- NAT64 prefix with its scaled lifetime, its length and its octets; and any other with its type and its data.
pub data Value : Type 0 where
  source : List ℕ → Value
  target : List ℕ → Value
  prefix : ℕ → Bool → Bool → Bool → ℕ → ℕ → List ℕ → Value
  mtu : ℕ → Value
  nonce : List ℕ → Value
  route : ℕ → Preference → ℕ → List ℕ → Value
  servers : ℕ → List ℕ → Value
  search_list : ℕ → List ℕ → Value
  portal : List ℕ → Value
  nat64 : ℕ → Nat64Length → List ℕ → Value
  other : ℕ → List ℕ → Value

abbrev pub prefix_value : Prefix → Value
prefix_value p =
    prefix p.prefix_len p.on_link p.autonomous p.router_address p.valid_lifetime p.preferred_lifetime
    (octets_of p.prefix)

abbrev pub route_value : Route → Value
route_value r = route r.prefix_len r.preference r.lifetime r.prefix.now

abbrev pub nat64_value : Nat64Prefix → Value
nat64_value p = nat64 p.scaled_lifetime p.length p.prefix.now

abbrev pub value_of : NeighborOption → Value
value_of (NeighborOption.SourceLinkLayerAddress octets) = source octets.now
value_of (NeighborOption.TargetLinkLayerAddress octets) = target octets.now
value_of (NeighborOption.Prefix p) = prefix_value p
value_of (NeighborOption.Mtu n) = mtu n
value_of (NeighborOption.Nonce octets) = nonce octets.now
value_of (NeighborOption.Route r) = route_value r
value_of (NeighborOption.DnsServers lifetime addresses) = servers lifetime (octets_in addresses)
value_of (NeighborOption.SearchList lifetime names) = search_list lifetime (names_octets names)
value_of (NeighborOption.CaptivePortal octets) = portal octets.now
value_of (NeighborOption.Nat64Prefix p) = nat64_value p
value_of (NeighborOption.Other kind octets) = other kind octets.now

-- ---- the text

-- the units that hold so many bytes, the bytes of those units, and the zeros that are then behind
abbrev pub units : ℕ → ℕ
units n = (n + 7) / 8

abbrev pub whole_len : ℕ → ℕ
whole_len n = 8 * units n

abbrev pub zeros : ℕ → List ℕ
zeros n = replicate (whole_len n - n) 0

-- octets, behind so many bytes, with those zeros
abbrev pub filled : ℕ → List ℕ → List ℕ
filled n octets = octets ++ zeros (n + length octets)

-- an option of octets alone, and one of a lifetime and octets
abbrev pub data_fields : ℕ → List ℕ → List (List ℕ)
data_fields t octets =
    be8 t ∷ be8 (units (2 + length octets)) ∷ octets ∷ zeros (2 + length octets) ∷ []

abbrev pub list_fields : ℕ → ℕ → List ℕ → List (List ℕ)
list_fields t lifetime octets =
    be8 t ∷ be8 (units (8 + length octets)) ∷ be16 0 ∷ be32 lifetime ∷ octets ∷ zeros (8 + length octets) ∷ []

-- a flag of a byte, by the number of its bit
abbrev pub flag : Bool → ℕ → ℕ
flag true bit = bit
flag false bit = 0

abbrev pub flags : Bool → Bool → Bool → ℕ
flags on_link autonomous router = flag on_link 128 + flag autonomous 64 + flag router 32

abbrev pub option_fields : Value → List (List ℕ)
option_fields (source octets) = data_fields 1 octets
option_fields (target octets) = data_fields 2 octets
option_fields (prefix bits on_link autonomous router valid preferred octets) =
    be8 3 ∷ be8 4 ∷ be8 bits ∷ be8 (flags on_link autonomous router) ∷ be32 valid ∷ be32 preferred ∷ be32 0
    ∷ octets ∷ []
option_fields (mtu n) = be8 5 ∷ be8 1 ∷ be16 0 ∷ be32 n ∷ []
option_fields (nonce octets) = data_fields 14 octets
option_fields (route bits preference lifetime octets) =
    be8 24 ∷ be8 (units (8 + length octets)) ∷ be8 bits ∷ be8 (preference_number preference * 8) ∷ be32 lifetime
    ∷ octets ∷ zeros (8 + length octets) ∷ []
option_fields (servers lifetime octets) = list_fields 25 lifetime octets
option_fields (search_list lifetime octets) = list_fields 31 lifetime octets
option_fields (portal octets) = data_fields 37 octets
option_fields (nat64 scaled bits octets) =
    be8 38 ∷ be8 (units (4 + length octets)) ∷ be16 (scaled * 8 + length_code bits) ∷ octets
    ∷ zeros (4 + length octets) ∷ []
option_fields (other t octets) = data_fields t octets

abbrev pub text : Value → List ℕ
text v = fields (option_fields v)

-- the bytes of an option before the zeros, and with them
abbrev pub body_len : Value → ℕ
body_len (source octets) = 2 + length octets
body_len (target octets) = 2 + length octets
body_len (prefix bits on_link autonomous router valid preferred octets) = 32
body_len (mtu n) = 8
body_len (nonce octets) = 2 + length octets
body_len (route bits preference lifetime octets) = 8 + length octets
body_len (servers lifetime octets) = 8 + length octets
body_len (search_list lifetime octets) = 8 + length octets
body_len (portal octets) = 2 + length octets
body_len (nat64 scaled bits octets) = 4 + length octets
body_len (other t octets) = 2 + length octets

abbrev pub text_len : Value → ℕ
text_len v = whole_len (body_len v)

-- ---- the grammar

abbrev pub units_in : List ℕ → ℕ
units_in bytes = slice_index bytes 1

abbrev pub kind_in : List ℕ → Kind
kind_in bytes = kind_of (slice_index bytes 0)

-- the length of a prefix, in bits
abbrev pub bits_in : List ℕ → ℕ
bits_in bytes = slice_index bytes 2

abbrev pub flags_in : List ℕ → ℕ
flags_in bytes = slice_index bytes 3

abbrev pub lifetime_field : Field
lifetime_field = field 4 8

abbrev pub preferred_field : Field
preferred_field = field 8 12

-- the scaled lifetime of a NAT64 prefix, and in the lowest three bits the code of its length
abbrev pub scaled_field : Field
scaled_field = field 2 4

abbrev pub code_in : List ℕ → ℕ
code_in bytes = number_of scaled_field bytes % 8

-- some octets without the zeros at their end
abbrev pub strip_first : List ℕ → ℕ → List ℕ
strip_first [] zero = []
strip_first [] (suc n) = suc n ∷ []
strip_first (y ∷ rest) x = x ∷ y ∷ rest

unfoldable pub strip : List ℕ → List ℕ
strip [] = []
strip (x ∷ rest) = strip_first (strip rest) x

-- The checks of an option of some kind, in their order: of its units, and of the length of its prefix. A prefix has at
-- most 128 bits, and in a route no more than there are (RFC 4191 section 2.3).
abbrev pub kind_checks : Kind → List ℕ → List (Check Refusal)
kind_checks Kind.Prefix bytes =
    check (units_in bytes ≡ 4) (Refusal.Units 3 (units_in bytes))
    ∷ check (bits_in bytes ≤ 128) (Refusal.PrefixLength (bits_in bytes)) ∷ []
kind_checks Kind.Mtu bytes = check (units_in bytes ≡ 1) (Refusal.Units 5 (units_in bytes)) ∷ []
kind_checks Kind.Route bytes =
    check (units_in bytes ≤ 3) (Refusal.Units 24 (units_in bytes))
    ∷ check (bits_in bytes ≤ 64 * (units_in bytes - 1)) (Refusal.PrefixLength (bits_in bytes)) ∷ []
kind_checks Kind.DnsServers bytes =
    check ((3 ≤ units_in bytes) × (units_in bytes % 2 ≡ 1)) (Refusal.Units 25 (units_in bytes)) ∷ []
kind_checks Kind.SearchList bytes = check (2 ≤ units_in bytes) (Refusal.Units 31 (units_in bytes)) ∷ []
kind_checks Kind.Nat64Prefix bytes =
    check (units_in bytes ≡ 2) (Refusal.Units 38 (units_in bytes))
    ∷ check (code_in bytes < 6) (Refusal.LengthCode (code_in bytes)) ∷ []
kind_checks kind bytes = []

abbrev pub checks : List ℕ → List (Check Refusal)
checks bytes =
    check (8 ≤ length bytes) Refusal.Short
    ∷ check (1 ≤ units_in bytes) Refusal.Zero
    ∷ check (length bytes ≡ 8 * units_in bytes) (Refusal.Counted (8 * units_in bytes))
    ∷ kind_checks (kind_in bytes) bytes

pub record IsPrefix (bytes : List ℕ) (bits : ℕ) (on_link autonomous router : Bool) (valid preferred : ℕ)
    (octets : List ℕ) : Type 0 where
  pub kind : kind_in bytes ≡ Kind.Prefix
  pub bits_are : bits ≡ bits_in bytes
  pub on_link_is : IsTrue on_link ↔ (flags_in bytes / 128 % 2 ≡ 1)
  pub autonomous_is : IsTrue autonomous ↔ (flags_in bytes / 64 % 2 ≡ 1)
  pub router_is : IsTrue router ↔ (flags_in bytes / 32 % 2 ≡ 1)
  pub valid_is : valid ≡ number_of lifetime_field bytes
  pub preferred_is : preferred ≡ number_of preferred_field bytes
  pub octets_are : octets ≡ part bytes 16 32

pub record IsRoute (bytes : List ℕ) (bits : ℕ) (preference : Preference) (lifetime : ℕ) (octets : List ℕ)
    : Type 0 where
  pub kind : kind_in bytes ≡ Kind.Route
  pub bits_are : bits ≡ bits_in bytes
  pub preference_is : preference ≡ preference_in (flags_in bytes)
  pub lifetime_is : lifetime ≡ number_of lifetime_field bytes
  pub octets_are : octets ≡ drop 8 bytes

pub record IsNat64 (bytes : List ℕ) (scaled : ℕ) (bits : Nat64Length) (octets : List ℕ) : Type 0 where
  pub kind : kind_in bytes ≡ Kind.Nat64Prefix
  pub scaled_is : scaled ≡ number_of scaled_field bytes / 8
  pub bits_are : length_code bits ≡ code_in bytes
  pub octets_are : octets ≡ drop 4 bytes

-- octets alone, and a lifetime and octets
abbrev pub IsData : Kind → List ℕ → List ℕ → Type 0
IsData kind bytes octets = (kind_in bytes ≡ kind) × (octets ≡ drop 2 bytes)

abbrev pub IsList : Kind → List ℕ → ℕ → List ℕ → Type 0
IsList kind bytes lifetime octets =
    (kind_in bytes ≡ kind) × (lifetime ≡ number_of lifetime_field bytes) × (octets ≡ drop 8 bytes)

-- what the bytes say
abbrev pub IsContent : List ℕ → Value → Type 0
IsContent bytes (source octets) = IsData Kind.Source bytes octets
IsContent bytes (target octets) = IsData Kind.Target bytes octets
IsContent bytes (prefix bits on_link autonomous router valid preferred octets) =
    IsPrefix bytes bits on_link autonomous router valid preferred octets
IsContent bytes (mtu n) = (kind_in bytes ≡ Kind.Mtu) × (n ≡ number_of lifetime_field bytes)
IsContent bytes (nonce octets) = IsData Kind.Nonce bytes octets
IsContent bytes (route bits preference lifetime octets) = IsRoute bytes bits preference lifetime octets
IsContent bytes (servers lifetime octets) = IsList Kind.DnsServers bytes lifetime octets
IsContent bytes (search_list lifetime octets) = IsList Kind.SearchList bytes lifetime octets
IsContent bytes (portal octets) = (kind_in bytes ≡ Kind.CaptivePortal) × (octets ≡ strip (drop 2 bytes))
IsContent bytes (nat64 scaled bits octets) = IsNat64 bytes scaled bits octets
IsContent bytes (other t octets) =
    (kind_in bytes ≡ Kind.Other) × (t ≡ slice_index bytes 0) × (octets ≡ drop 2 bytes)

-- The grammar: the bytes, all of them, pass the checks, and say this.
pub record IsOption (bytes : List ℕ) (v : Value) : Type 0 where
  pub passes : Passes (checks bytes)
  pub content : IsContent bytes v

abbrev pub Refuses : List ℕ → Refusal → Type 0
Refuses bytes why = Fails (checks bytes) why
