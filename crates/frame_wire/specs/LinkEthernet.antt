-- The header of a frame of Ethernet (IEEE 802.3 clause 3.1.1): where the frame goes to, where it comes from, and a
-- type.
use Rattle.std.specs.Prelude.{◌≡◌, ◌≤◌, List, ℕ, length}
use Rattle.frame_wire.specs.Words.{Link, bytes_of, field, number_of}
use Rattle.wirebase.specs.Ethernet.{octets_of}
use Rattle.wirebase.specs.HardwareAddress.{ethernet_of}
use Rattle.frame_wire.specs.declared.link.ethernet.EthernetHeader.{EthernetHeader}

-- a frame of Ethernet that has the whole header
abbrev pub HasHeader : Link → List ℕ → Type 0
HasHeader link bytes = (link ≡ Link.Ethernet) × (14 ≤ length bytes)

pub record IsHeader (bytes : List ℕ) (h : EthernetHeader) : Type 0 where
  pub destination_is : octets_of (ethernet_of h.destination) ≡ bytes_of (field 0 6) bytes
  pub source_is : octets_of (ethernet_of h.source) ≡ bytes_of (field 6 12) bytes
  pub kind_is : h.kind ≡ number_of (field 12 14) bytes
