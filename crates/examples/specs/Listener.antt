-- What a host that listens to multicast groups over IPv6 sends, and when (RFC 3810).
use Rattle.std.specs.Prelude.{◌≡◌, ◌⊎◌, ℕ, ◌+◌, ◌*◌, ◌/◌, ◌%◌, ◌^◌, ◌≤◌, nat_lt, if◌then◌else◌, Bool, List}
use Rattle.std.specs.Prelude.{[], ◌∷◌, ◌++◌, length, take}
use Rattle.control_wire.specs.Capabilities.{all_of}
use Rattle.control_wire.specs.ChecksumType.TheVariants.{Both}
use Rattle.control_wire.specs.Duration.{micros_of}
use Rattle.control_wire.specs.Ipv6Address.{octets_of, IsMulticast, IsLinkLocal}
use Rattle.control_wire.specs.Ipv6AddressType.{Ipv6Address}
use Rattle.control_wire.specs.Icmpv6.{packet_text, mld}
use Rattle.control_wire.specs.Mld.{MldValue, query, report, records}
use Rattle.control_wire.specs.MldRecord.{RecordValue, address_record, group_of, text}
use Rattle.control_wire.specs.MldRecordTypeType.TheVariants.{ModeIsInclude, ModeIsExclude}
use Rattle.examples.specs.Neighbor.{IsUnspecified}
use Rattle.examples.specs.Ping.{IsGoodMessageV6}
use Rattle.examples.specs.declared.listener.Response.{Response}

-- ---- reports

-- a report from this address to ff02::16, with its checksum
abbrev pub IsReport : Ipv6Address → MldValue → List ℕ → Type 0
IsReport own v bytes =
    (to : Ipv6Address)
    × (octets_of to ≡ 0xff ∷ 2 ∷ 0 ∷ 0 ∷ 0 ∷ 0 ∷ 0 ∷ 0 ∷ 0 ∷ 0 ∷ 0 ∷ 0 ∷ 0 ∷ 0 ∷ 0 ∷ 0x16 ∷ [])
    × (bytes ≡ packet_text (all_of Both) own to (mld v))

-- that of these records
abbrev pub IsReportOf : Ipv6Address → List RecordValue → List ℕ → Type 0
IsReportOf own reported bytes = IsReport own (records reported) bytes

-- ---- queries

-- the milliseconds that a maximum response code means: below 32,768 it counts them; from there on its last twelve bits,
-- with a one before them, are the mantissa, and the three bits above those, plus 3, are the exponent (section 5.1.3)
unfoldable pub delay_millis : ℕ → ℕ
delay_millis code = if nat_lt code 32768 then code else (4096 + code % 4096) * 2 ^ (code / 4096 % 8 + 3)

-- A query that was not forwarded, from a router of the link, with a good checksum: its code, the group that it asks
-- for, :: for all, and the sources, all that it counts (sections 5.1 and 6.2).
pub record IsQuery (querier asked : Ipv6Address) (hops : ℕ) (bytes : List ℕ) (code : ℕ) (group : Ipv6Address)
    (sources : List ℕ) : Type 0 where
  pub flag : Bool
  pub qrv : ℕ
  pub qqic : ℕ
  pub count : ℕ
  pub behind : List ℕ
  pub hops_are : hops ≡ 1
  pub router : IsLinkLocal querier
  pub message : IsGoodMessageV6 querier asked bytes (mld (query code group flag qrv qqic count behind))
  pub whole : 16 * count ≤ length behind
  pub sources_are : sources ≡ take (16 * count) behind

-- ---- answers

-- there is a record of this group
abbrev pub IsListedIn : List RecordValue → Ipv6Address → Type 0
IsListedIn [] group = ⊥
IsListedIn (r ∷ rs) group = (octets_of (group_of r) ≡ octets_of group) ⊎ IsListedIn rs group

-- a record by which a host says that it listens to these sources of a group
abbrev pub record_of : Ipv6Address → List ℕ → List ℕ
record_of group sources = text (address_record ModeIsInclude 0 (length sources / 16) group []) ++ sources

-- What answers a query, of a host that listens to the groups of these records: for all groups the records, where there
-- are any; for one of them its record; and for sources of one, 89 at most, a record of those sources (section 6.3).
pub data IsDue (listening : List RecordValue) (group : Ipv6Address) (sources : List ℕ) : MldValue → Type 0 where
  all_groups : IsUnspecified group → 1 ≤ length listening → IsDue listening group sources (records listening)
  one_group : IsMulticast group → IsListedIn listening group → sources ≡ []
      → IsDue listening group sources (records (address_record ModeIsExclude 0 0 group [] ∷ []))
  some_sources : IsMulticast group → IsListedIn listening group → 1 ≤ length sources → length sources ≤ 16 * 89
      → IsDue listening group sources (report 1 (record_of group sources))

-- the report that answers a query, within its time
pub record IsResponse (querier asked : Ipv6Address) (hops : ℕ) (own : Ipv6Address) (listening : List RecordValue)
    (bytes : List ℕ) (response : Response) (written : List ℕ) : Type 0 where
  pub code : ℕ
  pub group : Ipv6Address
  pub sources : List ℕ
  pub due : MldValue
  pub query : IsQuery querier asked hops bytes code group sources
  pub is_due : IsDue listening group sources due
  pub delay : micros_of response.max_delay ≡ 1000 * delay_millis code
  pub report : IsReport own due written
