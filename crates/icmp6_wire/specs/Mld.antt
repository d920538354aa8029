-- Messages of multicast listener discovery, version 2 (RFC 3810 section 5).
use Rattle.std.specs.Prelude.{◌≡◌, ◌↔◌, ℕ, ◌+◌, ◌*◌, ◌^◌, ◌<◌, ◌≤◌, Bool, IsTrue, List, [], ◌∷◌, length, drop, map}
use Rattle.std.specs.Prelude.{if◌then◌else◌}
use Rattle.std.specs.List.{AllByRecursion}
use Rattle.icmp6_wire.specs.Words.{Check, Passes, byte_of, bytes_of, number_of, over, be8, be16, fields, Format}
use Rattle.icmp6_wire.specs.Words.{RoundTrips, type_field, octets_of, IsMulticast, Ipv6Address, AddressRecordRepr}
use Rattle.icmp6_wire.specs.Icmpv6Packet.{header_checks}
use Rattle.icmp6_wire.specs.Icmpv6Tables.{is_mld}
use Rattle.icmp6_wire.specs.MldPacket.{max_resp_code_field, mcast_addr_field, qqic_field, num_srcs_field}
use Rattle.icmp6_wire.specs.MldPacket.{nr_mcast_addr_rcrds_field, s_flag_in, qrv_in}
use Rattle.icmp6_wire.specs.MldRecord.{RecordValue, group_of}
use Rattle.icmp6_wire.specs.MldRecord as a_record
use Rattle.icmp6_wire.specs.declared.mld.refusal.Refusal.{Refusal}
use Rattle.icmp6_wire.specs.declared.mld.repr.Repr.{Repr}

-- A message by its content: a query with its response code, the group, its flag, the robustness variable, the
-- interval's code, the number of sources and the bytes of them; a report with the number of its records and the bytes
-- of them; or a report by its records.
pub data MldValue : Type 0 where
  query : ℕ → Ipv6Address → Bool → ℕ → ℕ → ℕ → List ℕ → MldValue
  report : ℕ → List ℕ → MldValue
  records : List RecordValue → MldValue

abbrev pub values_of : List AddressRecordRepr → List RecordValue
values_of rs = map a_record.value_of rs

abbrev pub value_of : Repr → MldValue
value_of (Repr.Query code group flag qrv qqic sources d) = query code group flag qrv qqic sources d.now
value_of (Repr.Report count d) = report count d.now
value_of (Repr.ReportRecordReprs rs) = records (values_of rs.now)

-- ---- the text

-- the flag S and the robustness variable in one byte
abbrev pub sqrv : Bool → ℕ → ℕ
sqrv flag qrv = (if flag then 8 else 0) + qrv

-- the fields, with the checksum zero
abbrev pub query_fields : ℕ → Ipv6Address → Bool → ℕ → ℕ → ℕ → List ℕ → List (List ℕ)
query_fields code group flag qrv qqic sources d =
    be8 0x82 ∷ be8 0 ∷ be16 0
    ∷ be16 code ∷ be16 0
    ∷ octets_of group
    ∷ be8 (sqrv flag qrv) ∷ be8 qqic ∷ be16 sources
    ∷ d ∷ []

abbrev pub report_fields : ℕ → List (List ℕ) → List (List ℕ)
report_fields count rest = be8 0x8f ∷ be8 0 ∷ be16 0 ∷ be16 0 ∷ be16 count ∷ rest

-- the text of each record
abbrev pub record_texts : List RecordValue → List (List ℕ)
record_texts rs = map a_record.text rs

abbrev pub message_fields : MldValue → List (List ℕ)
message_fields (query code group flag qrv qqic sources d) = query_fields code group flag qrv qqic sources d
message_fields (report count d) = report_fields count (d ∷ [])
message_fields (records rs) = report_fields (length rs) (record_texts rs)

abbrev pub text : MldValue → List ℕ
text v = fields (message_fields v)

-- the bytes that it takes, and those before a list of records
abbrev pub text_len : MldValue → ℕ
text_len (query code group flag qrv qqic sources d) = 28 + length d
text_len (report count d) = 8 + length d
text_len (records rs) = 8 + 20 * length rs

abbrev pub told_len : MldValue → ℕ
told_len (records rs) = 8
told_len v = text_len v

-- all records are of groups
abbrev pub AreGroups : List RecordValue → Type 0
AreGroups rs = AllByRecursion (λ r. IsMulticast (group_of r)) rs

-- The requirements on a message and on the octets that it is written into: the octets are exactly its length, or for a
-- list of records its length or more; a query's robustness variable has three bits; records are of groups, and their
-- number fits two bytes.
abbrev pub CanEmit : MldValue → List ℕ → Type 0
CanEmit (query code group flag qrv qqic sources d) bytes = (length bytes ≡ 28 + length d) × (qrv < 8)
CanEmit (report count d) bytes = length bytes ≡ 8 + length d
CanEmit (records rs) bytes = (8 + 20 * length rs ≤ length bytes) × (length rs ≤ 65535) × AreGroups rs

-- ---- the grammar

-- The checks, in their order: there are the 8 bytes of every header; the type is that of a query or of a report; and
-- there are the bytes of the header of that type, which are 28 of a query.
abbrev pub checks : List ℕ → List (Check Refusal)
checks = header_checks is_mld Refusal.Short Refusal.UnknownType Refusal.Length

pub record IsQuery (bytes : List ℕ) (code : ℕ) (group : Ipv6Address) (flag : Bool) (qrv qqic sources : ℕ)
    (d : List ℕ) : Type 0 where
  pub kind : byte_of type_field bytes ≡ 0x82
  pub code_is : code ≡ number_of max_resp_code_field bytes
  pub group_is : octets_of group ≡ bytes_of mcast_addr_field bytes
  pub flag_is : IsTrue flag ↔ (s_flag_in bytes ≡ 1)
  pub qrv_is : qrv ≡ qrv_in bytes
  pub qqic_is : qqic ≡ byte_of qqic_field bytes
  pub sources_are : sources ≡ number_of num_srcs_field bytes
  pub data_is : d ≡ drop 28 bytes

pub record IsReport (bytes : List ℕ) (count : ℕ) (d : List ℕ) : Type 0 where
  pub kind : byte_of type_field bytes ≡ 0x8f
  pub count_is : count ≡ number_of nr_mcast_addr_rcrds_field bytes
  pub data_is : d ≡ drop 8 bytes

-- the counts are not compared with the data, and no bytes are read as a list of records
abbrev pub IsContent : List ℕ → MldValue → Type 0
IsContent bytes (query code group flag qrv qqic sources d) = IsQuery bytes code group flag qrv qqic sources d
IsContent bytes (report count d) = IsReport bytes count d
IsContent bytes (records rs) = ⊥

-- The grammar: the bytes pass the checks, and have this content.
pub record IsMessage (bytes : List ℕ) (v : MldValue) : Type 0 where
  pub passes : Passes (checks bytes)
  pub content : IsContent bytes v

-- ---- canonical values and the normal form

-- a message that its own text gives back as its normal form
abbrev pub IsCanonical : MldValue → Type 0
IsCanonical (query code group flag qrv qqic sources d) =
    (code < 2 ^ 16) × (qrv < 8) × (qqic < 256) × (sources < 2 ^ 16) × (28 + length d ≤ 65535)
IsCanonical (report count d) = (count < 2 ^ 16) × (8 + length d ≤ 65535)
IsCanonical (records rs) = (8 + 20 * length rs ≤ 65535) × AllByRecursion a_record.IsCanonical rs

-- the normal form: of a list of records, the report of their number and of their texts one after another
abbrev pub norm : MldValue → MldValue
norm (records rs) = report (length rs) (fields (record_texts rs))
norm v = v

-- the format; no value is an exception, and what was read is its own normal form
abbrev pub format : Format MldValue
format =
    record {
      Reads = IsMessage;
      Fills = Unit {0};
      text = text;
      IsCanonical = IsCanonical;
      IsException = λ v. ⊥;
      norm = norm;
      IsCut = λ v. ⊥;
    }

-- What writing a message over `old` leaves: its text over the front. Where `old` has exactly its length, its text is
-- all that is left, and a canonical value is read back from it as its normal form.
pub record Emits (v : MldValue) (old new : List ℕ) : Type 0 where
  pub written : new ≡ over old (text v)
  pub exact : length old ≡ text_len v → new ≡ text v
  pub reads_back : length old ≡ text_len v → IsCanonical v → IsMessage new (norm v)
  pub round_trips : RoundTrips format v
