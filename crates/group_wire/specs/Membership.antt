-- Messages about groups, of all versions (RFC 1112 appendix I, RFC 2236 section 2, RFC 3376 section 4; RFC 2710 section
-- 3, RFC 3810 section 5). A message of an older version, and what a query of the newest one begins with:
--
--  0                   1                   2                   3
--  0 1 2 3 4 5 6 7 8 9 0 1 2 3 4 5 6 7 8 9 0 1 2 3 4 5 6 7 8 9 0 1
-- +---------------+---------------+-------------------------------+
-- |     type      |response code, |           checksum            |
-- |               | of MLD zero   |                               |
-- +---------------+---------------+-------------------------------+
-- |    response code, of MLD      |       reserved, of MLD        |
-- +-------------------------------+-------------------------------+
-- |             group address, 4 bytes or 16 bytes                |
-- +-------+-+-----+---------------+-------------------------------+
-- |reservd|S| QRV |     QQIC      |       number of sources       |
-- +-------+-+-----+---------------+-------------------------------+
-- | sources
-- +- - - -
--
-- and a report of the newest version, of both protocols:
--
-- +---------------+---------------+-------------------------------+
-- |     type      |   reserved    |           checksum            |
-- +---------------+---------------+-------------------------------+
-- |           reserved            |       number of records       |
-- +-------------------------------+-------------------------------+
-- | records
-- +- - - -
use Rattle.std.specs.Prelude.{◌≡◌, ◌↔◌, ℕ, ◌+◌, ◌*◌, ◌/◌, ◌%◌, ◌^◌, ◌<◌, ◌≤◌, ◌⊎◌, Bool, IsTrue, List, [], ◌∷◌}
use Rattle.std.specs.Prelude.{◌++◌, length, take, drop, slice_index, Option, Some, None, if◌then◌else◌, nat_lt}
use Rattle.byteorder.specs.Endian.{big_number}
use Rattle.wirebase.specs.Bytes.{Field, field, part, over, number_of}
use Rattle.wirebase.specs.ByteWriter.{be8, be16, fields}
use Rattle.wirebase.specs.Checks.{Check, Fails, Passes, check}
use Rattle.wirebase.specs.Checksum.{IsGood, fold, sealed}
use Rattle.wirebase.specs.Format.{Format, RoundTrips}
use Rattle.icmp6_wire.specs.Icmpv6Packet.{message_sum}
use Rattle.wirebase.specs.declared.ipv6.address.Ipv6Address.{Ipv6Address}
use Rattle.group_wire.specs.declared.family.Family.{Family}
use Rattle.group_wire.specs.declared.family.Kind.{Kind}
use Rattle.group_wire.specs.declared.membership.Message.{Message}
use Rattle.group_wire.specs.declared.query.Query.{Query}
use Rattle.group_wire.specs.declared.records.Records.{Records}
use Rattle.group_wire.specs.declared.refusal.Refusal.{Refusal}
use Rattle.group_wire.specs.Family.{width, group_at, older_len, kind_number, kind_of}
use Rattle.group_wire.specs.Records.{records_len_in}
use Rattle.group_wire.specs.Sources.{AreAddresses}

-- ---- values

-- A message by its content, addresses by their octets: a query of an older version with its response code and its
-- group; a query with its response code, its group, the flag S, the robustness variable, the code of the querier's
-- interval and the octets of its sources; the oldest report, that of an older version, and a leave message, each with
-- its group; and a report with the number of its records and their octets.
pub data Value : Type 0 where
  older_query : ℕ → List ℕ → Value
  query : ℕ → List ℕ → Bool → ℕ → ℕ → List ℕ → Value
  oldest_report : List ℕ → Value
  older_report : List ℕ → Value
  leave : List ℕ → Value
  report : ℕ → List ℕ → Value

abbrev pub query_value : {A : Type 0} → (A → List ℕ) → Query A → Value
query_value bytes q = query q.max_resp_code (bytes q.group) q.s_flag q.qrv q.qqic q.sources.octets.now

abbrev pub value_of : {A : Type 0} → (A → List ℕ) → Message A (Query A) (Records A) → Value
value_of bytes (Message.OlderQuery code group) = older_query code (bytes group)
value_of bytes (Message.Query q) = query_value bytes q
value_of bytes (Message.OldestReport group) = oldest_report (bytes group)
value_of bytes (Message.OlderReport group) = older_report (bytes group)
value_of bytes (Message.Leave group) = leave (bytes group)
value_of bytes (Message.Report records) = report records.count records.octets.now

-- ---- the text

-- what a message of one group begins with, the checksum zero; of a code the lower bits count that there is room for
abbrev pub header : Family → Kind → ℕ → List (List ℕ)
header Family.Igmp kind code = be8 (kind_number Family.Igmp kind) ∷ be8 (code % 2 ^ 8) ∷ be16 0 ∷ []
header Family.Mld kind code = be8 (kind_number Family.Mld kind) ∷ be8 0 ∷ be16 0 ∷ be16 code ∷ be16 0 ∷ []

-- the robustness variable that a query states: one above 7 as 0 (RFC 3376 section 4.1.6, RFC 3810 section 5.1.8)
abbrev pub stated_qrv : ℕ → ℕ
stated_qrv qrv = if nat_lt qrv 8 then qrv else 0

-- the flag S and the robustness variable in one byte
abbrev pub sqrv : Bool → ℕ → ℕ
sqrv flag qrv = (if flag then 8 else 0) + stated_qrv qrv

-- the number of sources that a query states, in two bytes; a value of the code has no more (see `AreAddresses`)
abbrev pub source_count : Family → List ℕ → ℕ
source_count f sources = length sources / width f % 2 ^ 16

abbrev pub message_fields : Family → Value → List (List ℕ)
message_fields f (older_query code group) = header f Kind.Query code ++ group ∷ []
message_fields f (query code group flag qrv qqic sources) =
    header f Kind.Query code
    ++ group ∷ be8 (sqrv flag qrv) ∷ be8 qqic ∷ be16 (source_count f sources) ∷ sources ∷ []
message_fields f (oldest_report group) = header f Kind.OldestReport 0 ++ group ∷ []
message_fields f (older_report group) = header f Kind.OlderReport 0 ++ group ∷ []
message_fields f (leave group) = header f Kind.Leave 0 ++ group ∷ []
message_fields f (report count records) =
    be8 (kind_number f Kind.Report) ∷ be8 0 ∷ be16 0 ∷ be16 0 ∷ be16 count ∷ records ∷ []

abbrev pub text : Family → Value → List ℕ
text f v = fields (message_fields f v)

-- the bytes of a query before its sources, and those that a message takes
abbrev pub query_len : Family → ℕ
query_len f = older_len f + 4

abbrev pub text_len : Family → Value → ℕ
text_len f (query code group flag qrv qqic sources) = query_len f + length sources
text_len f (report count records) = 8 + length records
text_len f v = older_len f

-- ---- the grammar

abbrev pub checksum_field : Field
checksum_field = field 2 4

abbrev pub record_count_field : Field
record_count_field = field 6 8

-- the kind of message in some bytes
abbrev pub kind_in : Family → List ℕ → Option Kind
kind_in f bytes = kind_of f (slice_index bytes 0)

-- the response code, and the numbers that it may be
abbrev pub code_in : Family → List ℕ → ℕ
code_in Family.Igmp bytes = slice_index bytes 1
code_in Family.Mld bytes = number_of (field 4 6) bytes

abbrev pub code_end : Family → ℕ
code_end Family.Igmp = 2 ^ 8
code_end Family.Mld = 2 ^ 16

abbrev pub group_in : Family → List ℕ → List ℕ
group_in f bytes = part bytes (group_at f) (older_len f)

-- the number of sources of a query, and their bytes
abbrev pub source_count_in : Family → List ℕ → ℕ
source_count_in f bytes = big_number 2 (part bytes (older_len f + 2) (query_len f))

abbrev pub sources_len_in : Family → List ℕ → ℕ
sources_len_in f bytes = width f * source_count_in f bytes

-- the bytes of the records of a report
abbrev pub report_len_in : Family → List ℕ → ℕ
report_len_in f bytes = records_len_in (width f) (number_of record_count_field bytes) (drop 8 bytes)

-- The checks after that of the checksum, in their order. A query of an older version has its exact length, and one of
-- the newest version its fields or more (RFC 3376 section 7.1, RFC 3810 section 8.1); all its sources are there, and
-- all records of a report.
abbrev pub kind_checks : Family → List ℕ → Option Kind → List (Check Refusal)
kind_checks f bytes (Some Kind.Query) =
    check ((length bytes ≡ older_len f) ⊎ (query_len f ≤ length bytes)) Refusal.Length
    ∷ check (query_len f ≤ length bytes → query_len f + sources_len_in f bytes ≤ length bytes) Refusal.Cut
    ∷ []
kind_checks f bytes (Some Kind.Report) = check (report_len_in f bytes ≤ length (drop 8 bytes)) Refusal.Cut ∷ []
kind_checks f bytes (Some kind) = check (older_len f ≤ length bytes) Refusal.Length ∷ []
kind_checks f bytes None = check ⊥ (Refusal.UnknownType (slice_index bytes 0)) ∷ []

-- The checks: the eight bytes that every message has, the checksum with the sum of a pseudo header, and the others.
abbrev pub checks : Family → ℕ → List ℕ → List (Check Refusal)
checks f extra bytes =
    check (8 ≤ length bytes) Refusal.Short
    ∷ check (IsGood bytes extra) Refusal.Checksum
    ∷ kind_checks f bytes (kind_in f bytes)

pub record IsQuery (f : Family) (bytes : List ℕ) (code : ℕ) (group : List ℕ) (flag : Bool) (qrv qqic : ℕ)
    (sources : List ℕ) : Type 0 where
  pub kind : kind_in f bytes ≡ Some Kind.Query
  pub long : query_len f ≤ length bytes
  pub code_is : code ≡ code_in f bytes
  pub group_is : group ≡ group_in f bytes
  pub flag_is : IsTrue flag ↔ (slice_index bytes (older_len f) / 8 % 2 ≡ 1)
  pub qrv_is : qrv ≡ slice_index bytes (older_len f) % 8
  pub qqic_is : qqic ≡ slice_index bytes (older_len f + 1)
  pub sources_are : sources ≡ part bytes (query_len f) (query_len f + sources_len_in f bytes)

-- what the bytes say; what follows is not looked at
abbrev pub IsContent : Family → List ℕ → Value → Type 0
IsContent f bytes (older_query code group) =
    (kind_in f bytes ≡ Some Kind.Query) × (length bytes ≡ older_len f) × (code ≡ code_in f bytes)
    × (group ≡ group_in f bytes)
IsContent f bytes (query code group flag qrv qqic sources) = IsQuery f bytes code group flag qrv qqic sources
IsContent f bytes (oldest_report group) = (kind_in f bytes ≡ Some Kind.OldestReport) × (group ≡ group_in f bytes)
IsContent f bytes (older_report group) = (kind_in f bytes ≡ Some Kind.OlderReport) × (group ≡ group_in f bytes)
IsContent f bytes (leave group) = (kind_in f bytes ≡ Some Kind.Leave) × (group ≡ group_in f bytes)
IsContent f bytes (report count records) =
    (kind_in f bytes ≡ Some Kind.Report) × (count ≡ number_of record_count_field bytes)
    × (records ≡ take (report_len_in f bytes) (drop 8 bytes))

-- The grammar: the bytes pass the checks, and say this.
pub record IsMessage (f : Family) (extra : ℕ) (bytes : List ℕ) (v : Value) : Type 0 where
  pub passes : Passes (checks f extra bytes)
  pub content : IsContent f bytes v

abbrev pub Refuses : Family → ℕ → List ℕ → Refusal → Type 0
Refuses f extra bytes why = Fails (checks f extra bytes) why

-- ---- canonical values and the normal form

-- a message that its own text gives back as its normal form
abbrev pub IsCanonical : Family → Value → Type 0
IsCanonical f (older_query code group) = (code < code_end f) × (length group ≡ width f)
IsCanonical f (query code group flag qrv qqic sources) =
    (code < code_end f) × (length group ≡ width f) × (qqic < 256) × AreAddresses (width f) sources
IsCanonical f (report count records) = (count < 2 ^ 16) × (records_len_in (width f) count records ≡ length records)
IsCanonical f (oldest_report group) = length group ≡ width f
IsCanonical f (older_report group) = length group ≡ width f
IsCanonical f (leave group) = length group ≡ width f

-- the normal form: MLD has one type of older report, and a robustness variable above 7 is 0
abbrev pub oldest_in : Family → List ℕ → Value
oldest_in Family.Igmp group = oldest_report group
oldest_in Family.Mld group = older_report group

abbrev pub norm : Family → Value → Value
norm f (oldest_report group) = oldest_in f group
norm f (older_query code group) = older_query code group
norm f (query code group flag qrv qqic sources) = query code group flag (stated_qrv qrv) qqic sources
norm f (older_report group) = older_report group
norm f (leave group) = leave group
norm f (report count records) = report count records

-- the sum of the pseudo header of so many bytes of ICMPv6 (RFC 8200 section 8.1)
abbrev pub pseudo_sum : Ipv6Address → Ipv6Address → ℕ → ℕ
pseudo_sum source destination bytes = fold (message_sum source destination bytes)

-- The packet of a message, where `extra` tells the sum of the pseudo header of so many bytes, and the format; no value
-- is an exception.
abbrev pub packet_text : Family → (ℕ → ℕ) → Value → List ℕ
packet_text f extra v = sealed checksum_field (text f v) (extra (length (text f v)))

abbrev pub format : Family → (ℕ → ℕ) → Format Value
format f extra =
    record {
      Reads = λ bytes v. IsMessage f (extra (length bytes)) bytes v;
      Fills = Unit {0};
      text = packet_text f extra;
      IsCanonical = IsCanonical f;
      IsException = λ v. ⊥;
      norm = norm f;
      IsCut = λ v. ⊥;
    }

-- What writing a message over `old` leaves: its text over the front, with the checksum of all. Where `old` has exactly
-- its length, its packet is all that is left.
pub record Emits (f : Family) (extra : ℕ → ℕ) (v : Value) (old new : List ℕ) : Type 0 where
  pub written : new ≡ sealed checksum_field (over old (text f v)) (extra (length old))
  pub good : IsGood new (extra (length old))
  pub exact : length old ≡ text_len f v → new ≡ packet_text f extra v
  pub round_trips : RoundTrips (format f extra) v
