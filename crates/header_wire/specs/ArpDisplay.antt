-- What packets of ARP and their refusals print.
use Rattle.std.specs.Prelude.{ℕ, List, [], ◌∷◌, codes, decimal}
use Rattle.byteorder.specs.Endian.{big_bytes}
use Rattle.wirebase.specs.Display.{pieces}
use Rattle.wirebase.specs.Ethernet.{octets_of}
use Rattle.wirebase.specs.Hexadecimal.{encode_lower, hex_colons}
use Rattle.wirebase.specs.Ipv4.{address_text}
use Rattle.header_wire.specs.Arp.{Value}
use Rattle.header_wire.specs.ArpTables.{operation_display}
use Rattle.header_wire.specs.declared.arp.Refusal.{Refusal}

abbrev pub packet_display : Value → List ℕ
packet_display v =
    pieces (codes "ARP " ∷ operation_display v.operation
    ∷ codes " " ∷ address_text v.source_protocol_addr
    ∷ codes " (" ∷ hex_colons (octets_of v.source_hardware_addr)
    ∷ codes ") > " ∷ address_text v.target_protocol_addr
    ∷ codes " (" ∷ hex_colons (octets_of v.target_hardware_addr)
    ∷ codes ")" ∷ [])

abbrev pub refusal_display : Refusal → List ℕ
refusal_display Refusal.Short = codes "fewer than 28 bytes"
refusal_display (Refusal.HardwareType n) =
    pieces (codes "hardware type " ∷ decimal n ∷ codes " is not Ethernet" ∷ [])
refusal_display (Refusal.ProtocolType n) =
    pieces (codes "protocol type 0x" ∷ encode_lower (big_bytes 2 n) ∷ codes " is not IPv4" ∷ [])
refusal_display (Refusal.HardwareLen n) =
    pieces (codes "a hardware address of " ∷ decimal n ∷ codes " bytes is not of 6" ∷ [])
refusal_display (Refusal.ProtocolLen n) =
    pieces (codes "a protocol address of " ∷ decimal n ∷ codes " bytes is not of 4" ∷ [])
