-- A resource record of a DNS message (RFC 1035 section 4.1.3).
--
-- +- - - - - - - - - - - - - - - - - - - - - - - - -
-- | name, one part
-- +-------------------------------+-------------------------------+
-- |             type              |             class             |
-- +-------------------------------+-------------------------------+
-- |                 time to live, in seconds                      |
-- +-------------------------------+-------------------------------+
-- |        length of data         | data
-- +-------------------------------+- - - - - - - - -
use Rattle.std.specs.Prelude.{◌≡◌, ◌≢◌, ◌≤◌, [], ◌∷◌, List, ℕ, drop, length, take}
use Rattle.dns_wire.specs.Words.{Check, Field, Passes, Reaches, Refusal, check, field, number_of}
use Rattle.wirebase.specs.Ipv4 as ipv4
use Rattle.wirebase.specs.Ipv6Address as ipv6
use Rattle.wirebase.specs.declared.ipv4.Ipv4Address.{Ipv4Address}
use Rattle.wirebase.specs.declared.ipv6.address.Ipv6Address.{Ipv6Address}
use Rattle.dns_wire.specs.DnsTables.{type_of}
use Rattle.dns_wire.specs.DnsPart.{IsSplit}
use Rattle.dns_wire.specs.DnsQuestion.{internet, type_field, class_field}
use Rattle.dns_wire.specs.declared.dns.tables.Type.{«Type» as RecordType}
use Rattle.dns_wire.specs.declared.dns.record.Record.{Record}
use Rattle.dns_wire.specs.declared.dns.record.RecordData.{RecordData}

-- the fields after the name and the class
abbrev pub ttl_field : Field
ttl_field = field 4 8

abbrev pub length_field : Field
length_field = field 8 10

-- the data of a record by its content
pub data DataValue : Type 0 where
  address4 : Ipv4Address → DataValue
  address6 : Ipv6Address → DataValue
  canonical_name : List ℕ → DataValue
  other : RecordType → List ℕ → DataValue

abbrev pub data_value : RecordData → DataValue
data_value (RecordData.A address) = address4 address
data_value (RecordData.Aaaa address) = address6 address
data_value (RecordData.Cname name) = canonical_name name.now
data_value (RecordData.Other t bytes) = other t bytes.now

-- these bytes are data of a type: an IPv4 address has 4 bytes (RFC 1035 section 3.4.1), an IPv6 address 16 (RFC 3596
-- section 2.2), and all other data are what they are
abbrev pub IsData : RecordType → List ℕ → DataValue → Type 0
IsData t bytes (address4 address) = (t ≡ RecordType.A) × (length bytes ≡ 4) × (ipv4.octets_of address ≡ bytes)
IsData t bytes (address6 address) = (t ≡ RecordType.Aaaa) × (length bytes ≡ 16) × (ipv6.octets_of address ≡ bytes)
IsData t bytes (canonical_name name) = (t ≡ RecordType.Cname) × (name ≡ bytes)
IsData t bytes (other u rest) = (t ≢ RecordType.A) × (t ≢ RecordType.Aaaa) × (t ≢ RecordType.Cname) × (u ≡ t)
    × (rest ≡ bytes)

-- a record by its content; the time to live is in seconds
pub record RecordValue : Type 0 where
  pub name : List ℕ
  pub ttl : ℕ
  pub holds : DataValue

abbrev pub value_of : Record → RecordValue
value_of r = record { name = r.name.now; ttl = r.ttl; holds = data_value r.«data» }

-- the type of a record and the bytes of its data, of the bytes after the name
abbrev pub type_in : List ℕ → RecordType
type_in after = type_of (number_of type_field after)

abbrev pub data_in : List ℕ → List ℕ
data_in after = take (number_of length_field after) (drop 10 after)

-- the checks of the fields after the name, in their order
abbrev pub field_checks : List ℕ → List (Check Refusal)
field_checks after =
    check (Reaches length_field after) Refusal.Short
    ∷ check (number_of class_field after ≡ internet) (Refusal.Class (number_of class_field after))
    ∷ check (number_of length_field after ≤ length (drop 10 after)) Refusal.Length
    ∷ []

-- The grammar: these bytes are a name of one part, then a type, the class of the internet, a time to live, the length
-- of the data and as many bytes of data of the type, and then a rest.
pub record IsRecord (bytes : List ℕ) (r : RecordValue) (rest : List ℕ) : Type 0 where
  pub after : List ℕ
  pub split : IsSplit bytes r.name after
  pub passes : Passes (field_checks after)
  pub ttl_is : r.ttl ≡ number_of ttl_field after
  pub data_is : IsData (type_in after) (data_in after) r.holds
  pub rest_is : rest ≡ drop (number_of length_field after) (drop 10 after)
