-- Brief lines of DHCP (RFC 2131 section 2).
use Rattle.std.specs.Prelude.{◌≡◌, ◌==◌, ◌&&◌, ◌||◌, ◌≤◌, ◌<◌, ◌++◌, [], Bool, List, None, Option, Some, ℕ, codes, decimal}
use Rattle.std.specs.Prelude.{false, if◌then◌else◌, is_none, length, nat_le, slice_index, true}
use Rattle.byteorder.specs.Endian.{big_number}
use Rattle.wirebase.specs.Bytes.{byte_of, bytes_of, number_of}
use Rattle.wirebase.specs.Hexadecimal.{hex_colons}
use Rattle.dhcp_wire.specs.Dhcpv4Packet.{ciaddr_field, magic_cookie, magic_field, op_field, xid_field, yiaddr_field}
use Rattle.dhcp_options.specs.Joined.{joined}
use Rattle.dhcp_options.specs.Parts.{Answer, ArePartsOf}
use Rattle.packet_fields.specs.Labels.{label_text}
use Rattle.packet_fields.specs.Names.{name_in}
use Rattle.packet_fields.specs.Texts.{v4_text}
use Rattle.dhcp_fields.specs.Header.{hardware_address, operations}
use Rattle.dhcp_fields.specs.Options.{message_names}
use Rattle.dhcp_fields.specs.Refusal.{first_cut}
use Rattle.message_brief.specs.Words.{word}
use Rattle.message_brief.specs.declared.dhcp.Told.{Told}

-- ---- options of one octet and of four

abbrev pub octet_in : List ℕ → Option ℕ
octet_in bytes = if length bytes == 1 then Some (slice_index bytes 0) else None

abbrev pub four_in : List ℕ → Option (List ℕ)
four_in bytes = if length bytes == 4 then Some bytes else None

-- What options tell: the type of message, the address that is asked for, the server, and the lease time in seconds (RFC
-- 2132 sections 9.6, 9.1, 9.7 and 9.2).
abbrev pub told_by : List Answer → Told
told_by parts = record {
  message_type = octet_in (joined 53 parts);
  requested_address = four_in (joined 50 parts);
  server_identifier = four_in (joined 54 parts);
  lease_time = four_in (joined 51 parts);
}

-- an option of n octets has this length, or has none or is not there
abbrev pub is_len : ℕ → ℕ → Bool
is_len len n = (n == 0) || (n == len)

-- whether none of the options that are told has another length than its value
abbrev pub have_lengths : List Answer → Bool
have_lengths parts =
    is_len 1 (length (joined 53 parts))
    && (is_len 4 (length (joined 50 parts))
    && (is_len 4 (length (joined 54 parts)) && is_len 4 (length (joined 51 parts))))

abbrev pub nothing : Told
nothing = record { message_type = None; requested_address = None; server_identifier = None; lease_time = None }

-- ---- the words of a line

-- the type of message by its name, or where there is none the operation of BOOTP
abbrev pub kind_text : Option ℕ → ℕ → List ℕ
kind_text None op = label_text (name_in operations op) (codes "op") op
kind_text (Some t) op = label_text (name_in message_names t) (codes "message") t

-- the client's hardware address, where it has one
abbrev pub hardware_text : List ℕ → List ℕ
hardware_text address = if length address == 0 then [] else word (hex_colons address)

-- an address behind a sign or a word
unfoldable pub signed : List ℕ → List ℕ → List ℕ
signed sign address = codes " " ++ (sign ++ (codes " " ++ v4_text address))

abbrev pub signed_if : List ℕ → Option (List ℕ) → List ℕ
signed_if sign None = []
signed_if sign (Some address) = signed sign address

-- The address that the server gives; where it gives none, the one that the client asks for, or else the one it has.
abbrev pub own_text : List ℕ → List ℕ
own_text bytes =
    if number_of ciaddr_field bytes == 0 then [] else signed (codes "?") (bytes_of ciaddr_field bytes)

abbrev pub asked_text : Option (List ℕ) → List ℕ → List ℕ
asked_text None bytes = own_text bytes
asked_text (Some address) bytes = signed (codes "?") address

abbrev pub address_text : Option (List ℕ) → List ℕ → List ℕ
address_text asked bytes =
    if number_of yiaddr_field bytes == 0 then asked_text asked bytes
    else signed (codes "=") (bytes_of yiaddr_field bytes)

-- the lease time, in seconds
abbrev pub lease_text : Option (List ℕ) → List ℕ
lease_text None = []
lease_text (Some time) = codes " lease=" ++ (decimal (big_number 4 time) ++ codes "s")

-- which message it is, its transaction and its client
abbrev pub front_text : Option ℕ → List ℕ → List ℕ
front_text type bytes =
    word (kind_text type (byte_of op_field bytes))
    ++ (word (decimal (number_of xid_field bytes)) ++ hardware_text (hardware_address bytes))

abbrev pub packet_text : Told → List ℕ → List ℕ
packet_text told bytes =
    front_text told.message_type bytes
    ++ (address_text told.requested_address bytes
    ++ (signed_if (codes "from") told.server_identifier ++ lease_text told.lease_time))

-- the octets have room for options, and the magic cookie before them (RFC 2131 section 3)
abbrev pub has_options : List ℕ → Bool
has_options bytes = nat_le 240 (length bytes) && (number_of magic_field bytes == magic_cookie)

-- no option is cut, and none of those that are told has another length
abbrev pub are_whole : List Answer → Bool
are_whole parts = have_lengths parts && is_none (first_cut parts)

-- The text of a packet, and whether all of it reads: of one without options what stands before these.
pub data DhcpIs (bytes : List ℕ) : List ℕ → Bool → Type 0 where
  short : length bytes < 44 → DhcpIs bytes [] false
  bare : 44 ≤ length bytes → has_options bytes ≡ false → DhcpIs bytes (packet_text nothing bytes) false
  whole : (parts : List Answer) → has_options bytes ≡ true → ArePartsOf bytes parts
      → DhcpIs bytes (packet_text (told_by parts) bytes) (are_whole parts)
