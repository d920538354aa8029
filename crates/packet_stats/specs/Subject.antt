-- What is counted.
use Rattle.std.specs.Prelude.{◌++◌, [], ◌∷◌, List, None, Option, Some, ℕ}
use Rattle.byteorder.specs.Endian.{big_bytes}
use Rattle.dns_wire.specs.DnsTables.{type_number}
use Rattle.dns_wire.specs.declared.dns.tables.Type.{«Type» as RecordType}
use Rattle.record_wire.specs.Labels.{wire}
use Rattle.record_wire.specs.Name.{labels_of}
use Rattle.wirebase.specs.Ipv4.{octets_of as octets_of4}
use Rattle.wirebase.specs.Ipv6Address.{octets_of as octets_of6}
use Rattle.packet_stats.specs.Types.{Addresses, FilterMode, IpAddress, Source, Subject}

-- the octets of an address, 4 of IPv4 and 16 of IPv6
abbrev pub octets_in : IpAddress → List ℕ
octets_in (IpAddress.V4 address) = octets_of4 address
octets_in (IpAddress.V6 address) = octets_of6 address

-- the address that a datagram comes from
abbrev pub source_in : Addresses → IpAddress
source_in (Addresses.V4 source destination) = IpAddress.V4 source
source_in (Addresses.V6 source destination) = IpAddress.V6 source

-- a subject by its content: addresses are their octets, and a question has the labels of its name and its type, an
-- outcome its number, a lease its seconds, where they are told, a source the filter mode that its member has, and a
-- prefix its length in bits
pub data SubjectValue : Type 0 where
  question : (labels : List (List ℕ)) → RecordType → SubjectValue
  outcome : (number : ℕ) → SubjectValue
  server : (address : List ℕ) → SubjectValue
  client : (hardware : List ℕ) → SubjectValue
  lease : (address hardware : List ℕ) → (time : Option ℕ) → SubjectValue
  member : (group host : List ℕ) → SubjectValue
  source : (group host : List ℕ) → FilterMode → (address : List ℕ) → SubjectValue
  neighbor : (address link : List ℕ) → SubjectValue
  router : (address : List ℕ) → SubjectValue
  prefix : (address : List ℕ) → (len : ℕ) → (router : List ℕ) → SubjectValue

abbrev pub source_of : Source → SubjectValue
source_of s = source (octets_in s.group) (octets_in s.host) s.mode (octets_in s.address)

abbrev pub subject_of : Subject → SubjectValue
subject_of (Subject.Question name kind) = question (labels_of name) kind
subject_of (Subject.Rcode n) = outcome n
subject_of (Subject.Server address) = server (octets_in address)
subject_of (Subject.Client hardware) = client hardware.items
subject_of (Subject.Lease address hardware time) = lease (octets_of4 address) hardware.items time
subject_of (Subject.Member group host) = member (octets_in group) (octets_in host)
subject_of (Subject.Source s) = source_of s
subject_of (Subject.Neighbor address link) = neighbor (octets_of6 address) link
subject_of (Subject.Router address) = router (octets_of6 address)
subject_of (Subject.Prefix address len sender) = prefix (octets_of6 address) len (octets_of6 sender)

-- ---- order

-- the octets of seconds, where they are told
abbrev pub time_octets : Option ℕ → List ℕ
time_octets None = []
time_octets (Some seconds) = big_bytes 4 seconds

-- sources that are wanted stand before those that are excluded
abbrev pub mode_octet : FilterMode → ℕ
mode_octet FilterMode.Include = 0
mode_octet FilterMode.Exclude = 1

-- the octets by which subjects of one kind are ordered
abbrev pub place_of : SubjectValue → List ℕ
place_of (question labels kind) = wire labels ++ big_bytes 2 (type_number kind)
place_of (outcome n) = big_bytes 2 n
place_of (server address) = address
place_of (client hardware) = hardware
place_of (lease address hardware time) = address ++ hardware ++ time_octets time
place_of (member group host) = group ++ host
place_of (source group host mode address) = group ++ host ++ mode_octet mode ∷ address
place_of (neighbor address link) = address ++ link
place_of (router address) = address
place_of (prefix address len sender) = address ++ len ∷ sender

-- Subjects of DNS are ordered by how many messages speak of them first; the others by their octets alone.
abbrev pub rank_of : SubjectValue → ℕ → ℕ
rank_of (question labels kind) count = count
rank_of (outcome n) count = count
rank_of (server address) count = count
rank_of _ count = 0
