-- Why bytes are not an ICMPv6 message: the first check that fails.
use Rattle.std.specs.Prelude.{◌≡◌, ◌⊎◌, ℕ, true, List}
use Rattle.icmp6_wire.specs.Words.{Fails, Passes, ChecksumCapabilities, Ipv6Address}
use Rattle.icmp6_wire.specs.Icmpv6.{MessageValue, checks, IsMessage}
use Rattle.icmp6_wire.specs.Icmpv6Packet.{message_in}
use Rattle.icmp6_wire.specs.Icmpv6Tables.{is_ndisc}
use Rattle.icmp6_wire.specs.NdiscRefusal.{RefusesOption}
use Rattle.icmp6_wire.specs.declared.icmpv6.refusal.Refusal.{Refusal}
use Rattle.icmp6_wire.specs.declared.ndisc.refusal.Refusal.{Refusal as NeighborRefusal}

-- the bytes are some message between these addresses
abbrev pub IsRead : ChecksumCapabilities → Ipv6Address → Ipv6Address → List ℕ → Type 0
IsRead capabilities source destination bytes =
    (value : MessageValue) × IsMessage capabilities source destination bytes value

-- all checks hold, and an option of a message of neighbor discovery is refused
pub record RefusesNeighbor (capabilities : ChecksumCapabilities) (source destination : Ipv6Address) (bytes : List ℕ)
    (why : Refusal) : Type 0 where
  pub passes : Passes (checks capabilities source destination bytes)
  pub neighbor : is_ndisc (message_in bytes) ≡ true
  pub reason : NeighborRefusal
  pub why_is : why ≡ Refusal.Ndisc reason
  pub option : RefusesOption bytes reason

abbrev pub Refuses : ChecksumCapabilities → Ipv6Address → Ipv6Address → List ℕ → Refusal → Type 0
Refuses capabilities source destination bytes why =
    Fails (checks capabilities source destination bytes) why
    ⊎ RefusesNeighbor capabilities source destination bytes why
