-- Packets of ARP for Ethernet and IPv4 (RFC 826):
--
--  0                   1                   2                   3
--  0 1 2 3 4 5 6 7 8 9 0 1 2 3 4 5 6 7 8 9 0 1 2 3 4 5 6 7 8 9 0 1
-- +-------------------------------+-------------------------------+
-- |       hardware type, 1        |     protocol type, 0x0800     |
-- +---------------+---------------+-------------------------------+
-- |hardware len, 6|protocol len, 4|           operation           |
-- +---------------+---------------+-------------------------------+
-- |                    source hardware address                    |
-- |                               +-------------------------------+
-- |                               |    source protocol address
-- +-------------------------------+-------------------------------+
--                                 |    target hardware address    |
-- +-------------------------------+                               |
-- |                                                               |
-- +---------------------------------------------------------------+
-- |                    target protocol address                    |
-- +---------------------------------------------------------------+
use Rattle.std.specs.Prelude.{◌≡◌, ℕ, ◌^◌, ◌<◌, ◌≤◌, List, [], ◌∷◌, length}
use Rattle.wirebase.specs.Bytes.{Field, field, over, byte_of, bytes_of, number_of}
use Rattle.wirebase.specs.ByteWriter.{be8, be16, fields}
use Rattle.wirebase.specs.Checks.{Check, Fails, Passes, check}
use Rattle.wirebase.specs.Ethernet.{Ethernet, octets_of as hardware_octets}
use Rattle.wirebase.specs.Format.{Format, RoundTrips}
use Rattle.wirebase.specs.HardwareAddress.{ethernet_of}
use Rattle.wirebase.specs.Ipv4.{octets_of}
use Rattle.wirebase.specs.Numbered.{IsProper}
use Rattle.wirebase.specs.declared.ipv4.Ipv4Address.{Ipv4Address}
use Rattle.header_wire.specs.ArpTables.{operation_number, operation_rows, operation_of}
use Rattle.header_wire.specs.declared.arp.Refusal.{Refusal}
use Rattle.header_wire.specs.declared.arp.Repr.{Repr}
use Rattle.header_wire.specs.declared.arp.tables.Operation.{Operation}

-- ---- values

-- a packet by its content
pub record Value : Type 0 where
  pub operation : Operation
  pub source_hardware_addr : Ethernet
  pub source_protocol_addr : Ipv4Address
  pub target_hardware_addr : Ethernet
  pub target_protocol_addr : Ipv4Address

abbrev pub value_of : Repr → Value
value_of r = record {
  operation = r.operation;
  source_hardware_addr = ethernet_of r.source_hardware_addr;
  source_protocol_addr = r.source_protocol_addr;
  target_hardware_addr = ethernet_of r.target_hardware_addr;
  target_protocol_addr = r.target_protocol_addr;
}

-- ---- the text

abbrev pub text_len : ℕ
text_len = 28

abbrev pub packet_fields : Value → List (List ℕ)
packet_fields v =
    be16 1 ∷ be16 0x0800
    ∷ be8 6 ∷ be8 4 ∷ be16 (operation_number v.operation)
    ∷ hardware_octets v.source_hardware_addr
    ∷ octets_of v.source_protocol_addr
    ∷ hardware_octets v.target_hardware_addr
    ∷ octets_of v.target_protocol_addr ∷ []

abbrev pub text : Value → List ℕ
text v = fields (packet_fields v)

-- ---- the grammar

abbrev pub hardware_type_field : Field
hardware_type_field = field 0 2

abbrev pub protocol_type_field : Field
protocol_type_field = field 2 4

abbrev pub hardware_len_field : Field
hardware_len_field = field 4 5

abbrev pub protocol_len_field : Field
protocol_len_field = field 5 6

abbrev pub operation_field : Field
operation_field = field 6 8

abbrev pub source_hardware_addr_field : Field
source_hardware_addr_field = field 8 14

abbrev pub source_protocol_addr_field : Field
source_protocol_addr_field = field 14 18

abbrev pub target_hardware_addr_field : Field
target_hardware_addr_field = field 18 24

abbrev pub target_protocol_addr_field : Field
target_protocol_addr_field = field 24 28

-- The checks, in their order: the packet is there; it is for Ethernet, and for IPv4; and its addresses have the lengths
-- of those.
abbrev pub checks : List ℕ → List (Check Refusal)
checks bytes =
    check (28 ≤ length bytes) Refusal.Short
    ∷ check (number_of hardware_type_field bytes ≡ 1) (Refusal.HardwareType (number_of hardware_type_field bytes))
    ∷ check (number_of protocol_type_field bytes ≡ 0x0800) (Refusal.ProtocolType (number_of protocol_type_field bytes))
    ∷ check (byte_of hardware_len_field bytes ≡ 6) (Refusal.HardwareLen (byte_of hardware_len_field bytes))
    ∷ check (byte_of protocol_len_field bytes ≡ 4) (Refusal.ProtocolLen (byte_of protocol_len_field bytes))
    ∷ []

-- what the fields say
pub record Says (bytes : List ℕ) (v : Value) : Type 0 where
  pub operation : v.operation ≡ operation_of (number_of operation_field bytes)
  pub source_hardware_addr : hardware_octets v.source_hardware_addr ≡ bytes_of source_hardware_addr_field bytes
  pub source_protocol_addr : octets_of v.source_protocol_addr ≡ bytes_of source_protocol_addr_field bytes
  pub target_hardware_addr : hardware_octets v.target_hardware_addr ≡ bytes_of target_hardware_addr_field bytes
  pub target_protocol_addr : octets_of v.target_protocol_addr ≡ bytes_of target_protocol_addr_field bytes

-- The grammar: the bytes pass the checks, and begin with this packet; what follows it is ignored.
pub record IsPacket (bytes : List ℕ) (v : Value) : Type 0 where
  pub passes : Passes (checks bytes)
  pub says : Says bytes v

abbrev pub Refuses : List ℕ → Refusal → Type 0
Refuses bytes why = Fails (checks bytes) why

-- ---- canonical values

-- a packet that its own text gives back
pub record IsCanonical (v : Value) : Type 0 where
  pub operation : IsProper Operation.Unknown operation_rows v.operation
  pub number : operation_number v.operation < 2 ^ 16

-- the format; a value is its own normal form, without exception
abbrev pub format : Format Value
format = record {
  Reads = IsPacket;
  Fills = Unit {0};
  text = text;
  IsCanonical = IsCanonical;
  IsException = λ v. ⊥;
  norm = λ v. v;
  IsCut = λ v. ⊥;
}

-- What writing a packet over `old` leaves: the packet, and all that followed it. It is read back.
pub record Emits (v : Value) (old new : List ℕ) : Type 0 where
  pub written : new ≡ over old (text v)
  pub exact : length old ≡ text_len → new ≡ text v
  pub round_trips : RoundTrips format v
