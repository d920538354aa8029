-- A record of a report: what a listener asks of a group (RFC 3810 section 5.2).
--
--  0                   1                   2                   3
--  0 1 2 3 4 5 6 7 8 9 0 1 2 3 4 5 6 7 8 9 0 1 2 3 4 5 6 7 8 9 0 1
-- +---------------+---------------+-------------------------------+
-- |  record type  |auxiliary words|       number of sources       |
-- +---------------+---------------+-------------------------------+
-- |               multicast address, 16 bytes                     |
-- +---------------------------------------------------------------+
-- | sources and auxiliary data
-- +- - - -
use Rattle.std.specs.Prelude.{◌≡◌, ℕ, ◌+◌, ◌*◌, ◌<◌, ◌≤◌, ◌^◌, List, [], ◌∷◌, ◌++◌, length, drop}
use Rattle.std.specs.Borrow.{Bor}
use Rattle.icmp6_wire.specs.Words.{Field, field, Reaches, bytes_of, byte_of, number_of, over, be8, be16, fields}
use Rattle.icmp6_wire.specs.Words.{Format, RoundTrips, IsProper, octets_of, IsMulticast, Ipv6Address, AddressRecord}
use Rattle.icmp6_wire.specs.Words.{AddressRecordRepr, RecordType, RecordRefusal, Check, check, Passes}
use Rattle.icmp6_wire.specs.MldTables.{record_type_number, record_type_rows, record_type_of}

-- the buffer of a view, and the view with another buffer
abbrev pub inner : {T : Type 0} → AddressRecord T → T
inner view = view.buffer

abbrev pub with_inner : {T : Type 0} → AddressRecord T → T → AddressRecord T
with_inner view buffer = record view { buffer = buffer }

abbrev pub view_octets : AddressRecord (Bor (List ℕ)) → List ℕ
view_octets view = (inner view).now

-- the fields
abbrev pub record_type_field : Field
record_type_field = field 0 1

abbrev pub aux_data_len_field : Field
aux_data_len_field = field 1 2

abbrev pub num_srcs_field : Field
num_srcs_field = field 2 4

abbrev pub mcast_addr_field : Field
mcast_addr_field = field 4 20

-- what follows them
abbrev pub payload_in : List ℕ → List ℕ
payload_in bytes = drop 20 bytes

-- the bytes of the record at the front of some bytes, by its own counts: its fields, its sources of 16 bytes, and its
-- auxiliary data in words of 4
abbrev pub record_len_in : List ℕ → ℕ
record_len_in bytes = 20 + 16 * number_of num_srcs_field bytes + 4 * byte_of aux_data_len_field bytes

-- a record by its content: its type, the words of auxiliary data, the number of sources, the group, and what follows
pub data RecordValue : Type 0 where
  address_record : RecordType → ℕ → ℕ → Ipv6Address → List ℕ → RecordValue

abbrev pub value_of : AddressRecordRepr → RecordValue
value_of r = address_record r.record_type r.aux_data_len r.num_srcs r.mcast_addr r.payload.now

-- its fields; what follows them is not written
abbrev pub record_fields : RecordValue → List (List ℕ)
record_fields (address_record kind words sources group rest) =
    be8 (record_type_number kind) ∷ be8 words ∷ be16 sources ∷ octets_of group ∷ []

abbrev pub text : RecordValue → List ℕ
text v = fields (record_fields v)

-- the group
abbrev pub group_of : RecordValue → Ipv6Address
group_of (address_record kind words sources group rest) = group

-- The check of the fields, by which a record alone is read; and after it, for the records of a report, that of the
-- sources and the auxiliary data that the record counts.
abbrev pub field_checks : List ℕ → List (Check RecordRefusal)
field_checks bytes = check (Reaches mcast_addr_field bytes) RecordRefusal.Short ∷ []

abbrev pub record_checks : List ℕ → List (Check RecordRefusal)
record_checks bytes = field_checks bytes ++ check (record_len_in bytes ≤ length bytes) RecordRefusal.Cut ∷ []

-- The grammar: the fields are there, and have this content.
pub record IsFields (bytes : List ℕ) (kind : RecordType) (words sources : ℕ) (group : Ipv6Address)
    (rest : List ℕ) : Type 0 where
  pub passes : Passes (field_checks bytes)
  pub kind_is : kind ≡ record_type_of (byte_of record_type_field bytes)
  pub words_are : words ≡ byte_of aux_data_len_field bytes
  pub sources_are : sources ≡ number_of num_srcs_field bytes
  pub group_is : octets_of group ≡ bytes_of mcast_addr_field bytes
  pub rest_is : rest ≡ payload_in bytes

abbrev pub IsRecord : List ℕ → RecordValue → Type 0
IsRecord bytes (address_record kind words sources group rest) = IsFields bytes kind words sources group rest

-- a record that its own text gives back as its normal form
abbrev pub IsCanonical : RecordValue → Type 0
IsCanonical (address_record kind words sources group rest) =
    IsProper RecordType.Unknown record_type_rows kind × (record_type_number kind < 256) × (words < 256)
    × (sources < 2 ^ 16) × IsMulticast group

-- the normal form: what follows the fields is not written
abbrev pub norm : RecordValue → RecordValue
norm (address_record kind words sources group rest) = address_record kind words sources group []

-- there are bytes after the fields
abbrev pub IsCut : RecordValue → Type 0
IsCut (address_record kind words sources group rest) = 0 < length rest

-- the format of records of a group; no value is an exception
abbrev pub IsGroupRecord : List ℕ → RecordValue → Type 0
IsGroupRecord bytes v = IsRecord bytes v × IsMulticast (group_of v)

abbrev pub format : Format RecordValue
format =
    record {
      Reads = IsGroupRecord;
      Fills = Unit {0};
      text = text;
      IsCanonical = IsCanonical;
      IsException = λ v. ⊥;
      norm = norm;
      IsCut = IsCut;
    }

-- What writing a record over `old` leaves.
pub record Emits (v : RecordValue) (old new : List ℕ) : Type 0 where
  pub written : new ≡ over old (text v)
  pub exact : length old ≡ 20 → new ≡ text v
  pub round_trips : RoundTrips format v
