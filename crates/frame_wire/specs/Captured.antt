-- Datagrams as far as they were captured: whole, cut at their end, or of no stated length.
use Rattle.std.specs.Prelude.{◌≡◌, ◌≢◌, ◌+◌, ◌<◌, ◌≤◌, ◌⊎◌, List, ℕ, drop, length}
use Rattle.frame_wire.specs.Words.{Extent, IpProtocol, Refusal}
use Rattle.wirebase.specs.Ipv4 as ipv4
use Rattle.frame_wire.specs.Datagram.{DatagramValue, value_of, HasHeader4, IsFragment4, IsHeaded4, IsDatagram4, IsHead4}
use Rattle.frame_wire.specs.Datagram.{Refuses4, HasHeader6, rest6, EndsAt6, IsCut6, IsHeaded6, IsDatagram6, IsHead6}
use Rattle.frame_wire.specs.Datagram.{RefusesBehind6, Refuses6}
use Rattle.frame_wire.specs.declared.datagram.captured.Captured.{Captured}

-- by content
pub record CapturedValue : Type 0 where
  pub datagram : DatagramValue
  pub extent : Extent

abbrev pub captured_of : Captured → CapturedValue
captured_of c = record { datagram = value_of c.datagram; extent = c.extent }

-- ---- IPv4

-- a header like that of a datagram, but with a total length of zero, as segmentation by a network card leaves it
pub record HasUnstated4 (bytes : List ℕ) : Type 0 where
  pub fixed : 20 ≤ length bytes
  pub version : ipv4.version_in bytes ≡ 4
  pub least : 20 ≤ ipv4.header_len_in bytes
  pub none : ipv4.total_len_in bytes ≡ 0

-- a datagram that is no fragment, whose header is there, and whose payload is all that follows it
pub record IsOpen4 (bytes : List ℕ) (v : DatagramValue) : Type 0 where
  pub there : ipv4.header_len_in bytes ≤ length bytes
  pub unfragmented : IsFragment4 bytes → ⊥
  pub headed : IsHeaded4 bytes v
  pub payload : v.payload ≡ drop (ipv4.header_len_in bytes) bytes

-- The grammar: a whole datagram; one that lacks some bytes at its end, by its own length; or one that states none.
pub data IsCaptured4 (bytes : List ℕ) (v : CapturedValue) : Type 0 where
  whole : IsDatagram4 bytes v.datagram → v.extent ≡ Extent.Whole → IsCaptured4 bytes v
  cut : (missing : ℕ) → HasHeader4 bytes → length bytes + missing ≡ ipv4.total_len_in bytes → missing ≢ 0
      → IsOpen4 bytes v.datagram → v.extent ≡ Extent.Cut missing → IsCaptured4 bytes v
  unstated : HasUnstated4 bytes → IsOpen4 bytes v.datagram → v.extent ≡ Extent.Unstated → IsCaptured4 bytes v

-- the header of a datagram that is cut, or of one that states no length
abbrev pub IsOpening4 : List ℕ → Type 0
IsOpening4 bytes = (HasHeader4 bytes × (length bytes < ipv4.total_len_in bytes)) ⊎ HasUnstated4 bytes

-- the refusal of such bytes otherwise: the header itself, with its options, is cut, or they are a fragment
abbrev pub RefusesOpen4 : List ℕ → Refusal → Type 0
RefusesOpen4 bytes (Refusal.Cut head) =
    IsOpening4 bytes × (length bytes < ipv4.header_len_in bytes) × IsHead4 bytes head
RefusesOpen4 bytes (Refusal.Fragment head) =
    IsOpening4 bytes × (ipv4.header_len_in bytes ≤ length bytes) × IsFragment4 bytes × IsHead4 bytes head
RefusesOpen4 bytes _ = ⊥

-- the refusal of other bytes: as for a whole datagram, except where the bytes end too early or state no length
abbrev pub RefusesCaptured4 : List ℕ → Refusal → Type 0
RefusesCaptured4 bytes (Refusal.TotalLen n) = Refuses4 bytes (Refusal.TotalLen n) × (n ≢ 0)
RefusesCaptured4 bytes (Refusal.Cut head) = RefusesOpen4 bytes (Refusal.Cut head)
RefusesCaptured4 bytes (Refusal.Fragment head) = Refuses4 bytes (Refusal.Fragment head)
    ⊎ RefusesOpen4 bytes (Refusal.Fragment head)
RefusesCaptured4 bytes refusal = Refuses4 bytes refusal

-- ---- IPv6

-- The grammar: a whole datagram, or one that lacks some bytes at its end, by its own length, with the headers that
-- extend IPv6 in what is there.
pub data IsCaptured6 (bytes : List ℕ) (v : CapturedValue) : Type 0 where
  whole : IsDatagram6 bytes v.datagram → v.extent ≡ Extent.Whole → IsCaptured6 bytes v
  cut : (missing end : ℕ) → HasHeader6 bytes → EndsAt6 bytes end → length bytes + missing ≡ end → missing ≢ 0
      → IsHeaded6 bytes (rest6 bytes) v.datagram → v.extent ≡ Extent.Cut missing → IsCaptured6 bytes v

-- the refusal of bytes that are cut, by what is there of the headers
abbrev pub RefusesCut6 : List ℕ → Refusal → Type 0
RefusesCut6 bytes refusal = HasHeader6 bytes × IsCut6 bytes × RefusesBehind6 bytes (rest6 bytes) refusal

-- the refusal of other bytes: as for a whole datagram, except where the bytes end too early
abbrev pub RefusesCaptured6 : List ℕ → Refusal → Type 0
RefusesCaptured6 bytes (Refusal.Cut head) =
    IsHead6 bytes head × ((p : IpProtocol) × RefusesCut6 bytes (Refusal.Extension p))
RefusesCaptured6 bytes (Refusal.Fragment head) =
    Refuses6 bytes (Refusal.Fragment head) ⊎ RefusesCut6 bytes (Refusal.Fragment head)
RefusesCaptured6 bytes Refusal.Jumbogram = Refuses6 bytes Refusal.Jumbogram ⊎ RefusesCut6 bytes Refusal.Jumbogram
RefusesCaptured6 bytes refusal = Refuses6 bytes refusal
