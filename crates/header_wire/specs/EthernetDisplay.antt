-- What headers of Ethernet and their refusals print.
use Rattle.std.specs.Prelude.{ℕ, List, [], ◌∷◌, codes}
use Rattle.byteorder.specs.Endian.{big_bytes}
use Rattle.wirebase.specs.Display.{pieces}
use Rattle.wirebase.specs.Ethernet.{octets_of}
use Rattle.wirebase.specs.Hexadecimal.{encode_lower, hex_colons}
use Rattle.header_wire.specs.Ethernet.{Value}
use Rattle.header_wire.specs.declared.ethernet.Refusal.{Refusal}

abbrev pub header_display : Value → List ℕ
header_display v =
    pieces (hex_colons (octets_of v.src_addr) ∷ codes " > " ∷ hex_colons (octets_of v.dst_addr)
    ∷ codes " ether_type=0x" ∷ encode_lower (big_bytes 2 v.ether_type) ∷ [])

abbrev pub refusal_display : Refusal → List ℕ
refusal_display Refusal.Short = codes "fewer than 14 bytes"
