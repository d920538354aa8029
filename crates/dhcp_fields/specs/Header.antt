-- The fields before the options (RFC 2131 section 2); their picture is in specs/Dhcpv4Packet.antt of dhcp_wire, which
-- begins sname behind the six bytes of an address of Ethernet, where the RFC has sixteen bytes for the address.
use Rattle.std.specs.Prelude.{◌*◌, ◌%◌, ◌==◌, [], ◌∷◌, ◌++◌, List, None, Option, Some, ℕ, codes, drop}
use Rattle.std.specs.Prelude.{if◌then◌else◌, min, take}
use Rattle.wirebase.specs.Bytes.{Field, byte_of, bytes_of, field as place, number_of}
use Rattle.wirebase.specs.Hexadecimal.{hex_colons}
use Rattle.dhcp_wire.specs.Dhcpv4Packet.{op_field, htype_field, hlen_field, hops_field, xid_field, secs_field}
use Rattle.dhcp_wire.specs.Dhcpv4Packet.{flags_field, ciaddr_field, yiaddr_field, siaddr_field, giaddr_field}
use Rattle.dhcp_wire.specs.Dhcpv4Packet.{file_field}
use Rattle.dhcp_options.specs.Areas.{sname_field}
use Rattle.dhcp_options.specs.declared.overload.Overload.{Overload}
use Rattle.packet_fields.specs.Fields.{Item, field, named, number, text, texts, time}
use Rattle.packet_fields.specs.Names.{Rows, name_in}
use Rattle.packet_fields.specs.Texts.{flag_names, v4_text}
use Rattle.dhcp_fields.specs.Texts.{before_zero, escaped}

-- the sixteen bytes for a hardware address
abbrev pub chaddr_field : Field
chaddr_field = place 28 44

-- operations
abbrev pub operations : Rows
operations = (1, codes "bootrequest") ∷ (2, codes "bootreply") ∷ []

-- some of IANA's registry of hardware types (ARP parameters)
abbrev pub hardware_names : Rows
hardware_names =
    (1, codes "ethernet") ∷ (6, codes "ieee_802") ∷ (7, codes "arcnet") ∷ (15, codes "frame_relay")
    ∷ (16, codes "atm") ∷ (17, codes "hdlc") ∷ (18, codes "fibre_channel") ∷ (20, codes "serial_line")
    ∷ (24, codes "ieee_1394") ∷ (27, codes "eui_64") ∷ (32, codes "infiniband") ∷ []

-- flags; the other bits are reserved
abbrev pub flag_rows : Rows
flag_rows = (0x8000, codes "broadcast") ∷ []

-- ---- the first 44 bytes

abbrev pub hardware_items : List ℕ → List Item
hardware_items bytes =
    named (codes "op") (byte_of op_field bytes) (name_in operations (byte_of op_field bytes))
    ∷ named (codes "htype") (byte_of htype_field bytes) (name_in hardware_names (byte_of htype_field bytes))
    ∷ field (codes "hlen") (number (byte_of hlen_field bytes))
    ∷ field (codes "hops") (number (byte_of hops_field bytes)) ∷ []

-- the bits of the flags that have no name, where some are set
abbrev pub reserved_items : ℕ → List Item
reserved_items bits = if bits == 0 then [] else field (codes "reserved_flags") (number bits) ∷ []

abbrev pub flag_items : ℕ → List Item
flag_items bits = field (codes "flags") (texts (flag_names flag_rows bits)) ∷ reserved_items (bits % 0x8000)

abbrev pub exchange_items : List ℕ → List Item
exchange_items bytes =
    field (codes "transaction_id") (number (number_of xid_field bytes))
    ∷ field (codes "secs") (time (1000 * number_of secs_field bytes)) ∷ flag_items (number_of flags_field bytes)

abbrev pub address_items : List ℕ → List Item
address_items bytes =
    field (codes "client_ip") (text (v4_text (bytes_of ciaddr_field bytes)))
    ∷ field (codes "your_ip") (text (v4_text (bytes_of yiaddr_field bytes)))
    ∷ field (codes "server_ip") (text (v4_text (bytes_of siaddr_field bytes)))
    ∷ field (codes "relay_agent_ip") (text (v4_text (bytes_of giaddr_field bytes))) ∷ []

-- the hardware address, of as many bytes as are counted and there is room for
abbrev pub hardware_address : List ℕ → List ℕ
hardware_address bytes = take (min (byte_of hlen_field bytes) 16) (drop 28 bytes)

abbrev pub client_items : List ℕ → List Item
client_items bytes = field (codes "client_hardware_address") (text (hex_colons (hardware_address bytes))) ∷ []

abbrev pub fixed_items : List ℕ → List Item
fixed_items bytes = hardware_items bytes ++ exchange_items bytes ++ address_items bytes ++ client_items bytes

-- ---- names, in the fields that hold no options

-- a name where it has a byte
abbrev pub name_items : List ℕ → List ℕ → List Item
name_items key [] = []
name_items key (b ∷ bs) = field key (text (escaped (b ∷ bs))) ∷ []

abbrev pub server_items : List ℕ → List Item
server_items bytes = name_items (codes "server_name") (before_zero (bytes_of sname_field bytes))

abbrev pub file_items : List ℕ → List Item
file_items bytes = name_items (codes "boot_file") (before_zero (bytes_of file_field bytes))

abbrev pub names_items : Option Overload → List ℕ → List Item
names_items None bytes = server_items bytes ++ file_items bytes
names_items (Some Overload.File) bytes = server_items bytes
names_items (Some Overload.Sname) bytes = file_items bytes
names_items (Some Overload.FileAndSname) bytes = []
