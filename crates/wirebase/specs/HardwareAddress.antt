-- Hardware addresses by their octets.
use Rattle.std.specs.Prelude.{ℕ, List, take, slice_index}
use Rattle.wirebase.specs.Ethernet.{Ethernet}
use Rattle.wirebase.specs.declared.ethernet.EthernetAddress.{EthernetAddress}
use Rattle.wirebase.specs.declared.ethernet.RawHardwareAddress.{RawHardwareAddress}

-- an address of Ethernet by its six octets
abbrev pub ethernet_of : EthernetAddress → Ethernet
ethernet_of address = record {
  a = slice_index address.0 0;
  b = slice_index address.0 1;
  c = slice_index address.0 2;
  d = slice_index address.0 3;
  e = slice_index address.0 4;
  f = slice_index address.0 5;
}

-- the bytes of an address of any hardware
abbrev pub raw_bytes : RawHardwareAddress → List ℕ
raw_bytes address = take address.len address.bytes
