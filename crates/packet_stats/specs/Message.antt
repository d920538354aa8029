-- What a message says.
use Rattle.std.specs.Prelude.{◌≡◌, ◌==◌, [], List, Option, if◌then◌else◌, ℕ}
use Rattle.frame_wire.specs.UdpCaptured.{CapturedValue, IsCaptured, RefusesCaptured}
use Rattle.frame_wire.specs.declared.udp.Refusal.{Refusal}
use Rattle.message_fields.specs.Checksums.{MessageValue, icmp4, icmp6, igmp, tcp, udp}
use Rattle.packet_stats.specs.Dhcp.{DhcpSays}
use Rattle.packet_stats.specs.Dns.{DnsSays}
use Rattle.wirebase.specs.Ipv6Address.{octets_of}
use Rattle.neighbor_fields.specs.Messages.{type_in}
use Rattle.packet_stats.specs.Groups.{igmp_said, new_said, old_said}
use Rattle.packet_stats.specs.Neighbors.{neighbors_said}
use Rattle.packet_stats.specs.Row.{MentionValue}
use Rattle.packet_stats.specs.Stats.{CountsPart, CountsSome, State}
use Rattle.packet_stats.specs.Subject.{octets_in, source_in}
use Rattle.packet_stats.specs.Types.{Addresses, IpAddress, Service}

-- ---- over UDP

abbrev pub ServiceSays : Service → IpAddress → Option ℕ → List ℕ → List MentionValue → Type 0
ServiceSays Service.Nbns source after bytes ms = ms ≡ []
ServiceSays Service.Dhcp source after bytes ms = DhcpSays bytes ms
ServiceSays _ source after bytes ms = DnsSays source after bytes ms

-- a datagram as far as it is there; what its header refuses says nothing
pub data UdpSays (service : Service) (between : Addresses) (after : Option ℕ) (bytes : List ℕ) (ms : List MentionValue)
    : Type 0 where
  opened : (c : CapturedValue) → IsCaptured bytes c → ServiceSays service (source_in between) after c.payload ms
      → UdpSays service between after bytes ms
  unopened : (r : Refusal) → RefusesCaptured bytes r → ms ≡ [] → UdpSays service between after bytes ms

-- there is no memory for all of it
pub record UdpBreaks (service : Service) (between : Addresses) (after : Option ℕ) (bytes : List ℕ) (old new : State)
    : Type 0 where
  pub c : CapturedValue
  pub is : IsCaptured bytes c
  pub breaks : CountsPart (ServiceSays service (source_in between) after c.payload) old new

-- ---- ICMPv6

abbrev pub icmp6_said : List ℕ → List ℕ → List MentionValue
icmp6_said source bytes =
    if type_in bytes == 131 then old_said source bytes
    else if type_in bytes == 143 then new_said source bytes
    else neighbors_said source bytes

-- ---- messages

-- What a message between these addresses says; messages of ICMPv6, UDP and TCP have their own. `after` is the time from
-- the question to this answer, where it is known.
abbrev pub Says : MessageValue → Addresses → Option ℕ → List MentionValue → Type 0
Says (icmp4 bytes) addresses after ms = ms ≡ []
Says (igmp bytes) addresses after ms = ms ≡ igmp_said (octets_in (source_in addresses)) bytes
Says (icmp6 source destination bytes) addresses after ms = ms ≡ icmp6_said (octets_of source) bytes
Says (udp service between bytes) addresses after ms = UdpSays service between after bytes ms
Says (tcp between segment bytes) addresses after ms = DnsSays (source_in between) after bytes ms

-- there is no memory for all of it
abbrev pub Breaks : MessageValue → Addresses → Option ℕ → State → State → Type 0
Breaks (igmp bytes) addresses after old new =
    CountsSome old (igmp_said (octets_in (source_in addresses)) bytes) new
Breaks (icmp6 source destination bytes) addresses after old new =
    CountsSome old (icmp6_said (octets_of source) bytes) new
Breaks (udp service between bytes) addresses after old new = UdpBreaks service between after bytes old new
Breaks (tcp between segment bytes) addresses after old new =
    CountsPart (DnsSays (source_in between) after bytes) old new
Breaks _ addresses after old new = ⊥
