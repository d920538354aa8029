-- Requests about an interface and their answers (RFC 8335), messages of ICMPv4 and of ICMPv6, by all octets from the
-- type on; and what such a request has behind its fields: an extension structure (RFC 4884 section 7) with one object,
-- which names the interface (RFC 8335 section 2.1), of class 3 and with the C-Type 1 for its name, 2 for its index and
-- 3 for its address.
--
--  0                   1                   2                   3
--  0 1 2 3 4 5 6 7 8 9 0 1 2 3 4 5 6 7 8 9 0 1 2 3 4 5 6 7 8 9 0 1
-- +---------------+---------------+-------------------------------+
-- |     type      |     code      |           checksum            |
-- +---------------+---------------+---------------+-------------+-+
-- |          identifier           |sequence number|  reserved   |L|  a request
-- +-------------------------------+---------------+-----+---+-+-+-+
-- |          identifier           |sequence number|state|res|A|4|6|  its answer
-- +-------------------------------+---------------+-----+---+-+-+-+
--
-- The payload of the object where it holds an address, which zeros pad to a multiple of 4 bytes:
--
-- +-------------------------------+---------------+---------------+
-- |        address family         |address length |   reserved    |
-- +-------------------------------+---------------+---------------+
-- | address
-- +- - - -
use Rattle.std.specs.Prelude.{◌==◌, ◌&&◌, ◌||◌, ◌/◌, ◌%◌, ◌+◌, ◌-◌, [], ◌∷◌, ◌++◌, Bool, List, None, Option, Some, ℕ}
use Rattle.std.specs.Prelude.{codes, drop, if◌then◌else◌, length, nat_lt, take}
use Rattle.wirebase.specs.Bytes.{byte_of, bytes_of, field as at, number_of, part}
use Rattle.wirebase.specs.Checksum.{fold, word_sum}
use Rattle.wirebase.specs.Hexadecimal.{hex_colons}
use Rattle.extension_wire.specs.ExtensionDisplay.{object_refusal_display, structure_refusal_display}
use Rattle.extension_wire.specs.InterfaceParts.{trimmed}
use Rattle.extension_wire.specs.Object.{ObjectValue, c_type_field, class_field, object_len_in}
use Rattle.extension_wire.specs.Structure.{checksum_field, version_in}
use Rattle.extension_wire.specs.declared.refusal.ObjectRefusal.{ObjectRefusal}
use Rattle.extension_wire.specs.declared.refusal.StructureRefusal.{StructureRefusal}
use Rattle.packet_fields.specs.Fields.{Item, Leaf, field, named, number, octets, text, truth}
use Rattle.packet_fields.specs.Texts.{v4_text, v6_text}
use Rattle.icmp_fields.specs.Icmp.{additional_items}
use Rattle.icmp_fields.specs.Names.{Rows, name_in}
use Rattle.icmp_fields.specs.Texts.{name_text}

-- ---- names

-- the state of the table entry of a node beside the one that answers (RFC 8335 section 3)
abbrev pub state_names : Rows
state_names =
    (0, codes "reserved") ∷ (1, codes "incomplete") ∷ (2, codes "reachable") ∷ (3, codes "stale") ∷ (4, codes "delay")
    ∷ (5, codes "probe") ∷ (6, codes "failed") ∷ []

-- some of IANA's registry of address family numbers
abbrev pub family_names : Rows
family_names = (1, codes "ipv4") ∷ (2, codes "ipv6") ∷ (6, codes "802") ∷ (16389, codes "mac48") ∷ []

-- ---- the structure of a request

-- Why it is refused, where it is, as its reader refuses it (RFC 4884 section 7). The checksum is that of all octets, so
-- where the capture cut the message it is not verified.
abbrev pub wrong_checksum : List ℕ → Option StructureRefusal
wrong_checksum bytes =
    if number_of checksum_field bytes == 0 then None
    else if fold (word_sum bytes) == 65535 then None
    else Some StructureRefusal.Checksum

abbrev pub structure_refusal : Bool → List ℕ → Option StructureRefusal
structure_refusal is_whole bytes =
    if nat_lt (length bytes) 4 then Some StructureRefusal.Short
    else if version_in bytes == 2 then (if is_whole then wrong_checksum bytes else None)
    else Some (StructureRefusal.Version (version_in bytes))

-- the object behind its header, and why there is none, where there is none (RFC 4884 section 8)
abbrev pub object_refusal : List ℕ → Option ObjectRefusal
object_refusal bytes =
    if nat_lt (length bytes) 4 then Some ObjectRefusal.Short
    else if nat_lt (object_len_in bytes) 4 then Some ObjectRefusal.Length
    else if nat_lt (length bytes) (object_len_in bytes) then Some ObjectRefusal.Cut
    else None

abbrev pub object_in : List ℕ → ObjectValue
object_in bytes = record {
  class = byte_of class_field bytes;
  c_type = byte_of c_type_field bytes;
  payload = part bytes 4 (object_len_in bytes);
}

-- the bytes of the address in a payload
abbrev pub address_len : List ℕ → ℕ
address_len bytes = byte_of (at 2 3) bytes

-- why an object names no interface, where it names none
abbrev pub wrong_address : List ℕ → Option (List ℕ)
wrong_address bytes =
    if nat_lt (length bytes) 4 then Some (codes "fewer than 4 bytes before an address")
    else if nat_lt (length bytes) (4 + address_len bytes) then Some (codes "fewer bytes than the address counts")
    else None

abbrev pub wrong_payload : ℕ → List ℕ → Option (List ℕ)
wrong_payload c_type bytes =
    if c_type == 1 then None
    else if c_type == 2 then (if length bytes == 4 then None else Some (codes "an index of other than 4 bytes"))
    else if c_type == 3 then wrong_address bytes
    else Some (codes "a C-Type that is not known")

abbrev pub wrong_object : ObjectValue → Option (List ℕ)
wrong_object o =
    if o.class == 3 then wrong_payload o.c_type o.payload else Some (codes "an object of another class than 3")

-- an address as those of its family are written; one of another length, or of another family, by its octets
abbrev pub address_leaf : ℕ → List ℕ → Leaf
address_leaf family bytes =
    if (family == 1) && (length bytes == 4) then text (v4_text bytes)
    else if (family == 2) && (length bytes == 16) then text (v6_text bytes)
    else if ((family == 6) || (family == 16389)) && (length bytes == 6) then text (hex_colons bytes)
    else octets bytes

-- the interface that is asked for
abbrev pub address_items : List ℕ → List Item
address_items bytes =
    let family = number_of (at 0 2) bytes in
    named (codes "interface_addr_family") family (name_in family_names family)
    ∷ field (codes "interface_addr") (address_leaf family (bytes_of (at 4 (4 + address_len bytes)) bytes)) ∷ []

abbrev pub payload_items : ℕ → List ℕ → List Item
payload_items c_type bytes =
    if c_type == 1 then field (codes "interface_name") (text (name_text bytes)) ∷ []
    else if c_type == 2 then field (codes "interface_index") (number (number_of (at 0 4) bytes)) ∷ []
    else address_items bytes

-- the bytes that pad to a multiple of 4 what ends here, where all of them are zeros
abbrev pub padding_of : ℕ → List ℕ → List ℕ
padding_of end behind = take ((4 - end % 4) % 4) behind

abbrev pub padding_len : ℕ → List ℕ → ℕ
padding_len end behind =
    if length (trimmed (padding_of end behind)) == 0 then length (padding_of end behind) else 0

-- the bytes of a payload that are told, and the padding of an address
abbrev pub told_len : ℕ → List ℕ → ℕ
told_len c_type bytes =
    if c_type == 3 then 4 + address_len bytes + padding_len (4 + address_len bytes) (drop (4 + address_len bytes) bytes)
    else length bytes

-- what an object names, and the octets of the structure behind that: the payload begins at byte 8
abbrev pub object_items : List ℕ → ObjectValue → List Item
object_items bytes o =
    payload_items o.c_type o.payload ++ additional_items (drop (8 + told_len o.c_type o.payload) bytes)

-- a structure that is refused, by its octets
abbrev pub unread_structure : List ℕ → Leaf → List Item
unread_structure bytes why = field (codes "data") (octets bytes) ∷ field (codes "data_refused") why ∷ []

abbrev pub named_or_refused : Option (List ℕ) → List ℕ → ObjectValue → List Item
named_or_refused None bytes o = object_items bytes o
named_or_refused (Some why) bytes o = unread_structure bytes (text why)

abbrev pub object_or_refused : Option ObjectRefusal → List ℕ → List Item
object_or_refused None bytes =
    let o = object_in (drop 4 bytes) in named_or_refused (wrong_object o) bytes o
object_or_refused (Some why) bytes = unread_structure bytes (text (object_refusal_display why))

abbrev pub structure_or_refused : Option StructureRefusal → List ℕ → List Item
structure_or_refused None bytes = object_or_refused (object_refusal (drop 4 bytes)) bytes
structure_or_refused (Some why) bytes = unread_structure bytes (text (structure_refusal_display why))

abbrev pub structure_items : Bool → List ℕ → List Item
structure_items is_whole bytes = structure_or_refused (structure_refusal is_whole bytes) bytes

-- ---- messages

-- the flag L: the interface is one of the receiver itself
abbrev pub request_fields : List ℕ → List Item
request_fields bytes =
    field (codes "ident") (number (number_of (at 4 6) bytes))
    ∷ field (codes "seq_no") (number (byte_of (at 6 7) bytes))
    ∷ field (codes "local") (truth (byte_of (at 7 8) bytes % 2 == 1)) ∷ []

abbrev pub request_items : Bool → List ℕ → List Item
request_items is_whole bytes = request_fields bytes ++ structure_items is_whole (drop 8 bytes)

-- the state, and the flags A, 4 and 6: the interface is active, runs IPv4, and runs IPv6
abbrev pub state_items : ℕ → List Item
state_items n =
    named (codes "state") (n / 32) (name_in state_names (n / 32))
    ∷ field (codes "active") (truth (n / 4 % 2 == 1))
    ∷ field (codes "ipv4") (truth (n / 2 % 2 == 1))
    ∷ field (codes "ipv6") (truth (n % 2 == 1)) ∷ []

abbrev pub reply_items : List ℕ → List Item
reply_items bytes =
    field (codes "ident") (number (number_of (at 4 6) bytes))
    ∷ field (codes "seq_no") (number (byte_of (at 6 7) bytes)) ∷ []
    ++ state_items (byte_of (at 7 8) bytes)
    ++ additional_items (drop 8 bytes)
