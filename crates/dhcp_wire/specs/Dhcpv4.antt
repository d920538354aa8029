-- The content of a DHCP packet: its value, its text, and the grammar that reads it (RFC 2131, RFC 2132).
use Rattle.std.specs.Prelude.{◌≡◌, ℕ, ◌==◌, ◌&&◌, Bool, true, false, List, [], ◌∷◌, ◌++◌, length, take, drop, map}
use Rattle.std.specs.Prelude.{flat_map, replicate, slice_index, if◌then◌else◌, Option, None, Some}
use Rattle.std.specs.Option.{option_map, option_or}
use Rattle.std.specs.Int.RustNames.{bit_and}
use Rattle.byteorder.specs.Endian.{big_number}
use Rattle.dhcp_wire.specs.Words.{Ipv4Address, MessageType, Reaches, byte_of, bytes_of, last_of, number_of, octets_of}
use Rattle.wirebase.specs.Checks.{Check, check, Passes}
use Rattle.wirebase.specs.ByteWriter.{be8, be16, be32, fields}
use Rattle.wirebase.specs.Ethernet.{Ethernet, octets_of as ethernet_octets}
use Rattle.wirebase.specs.HardwareAddress.{ethernet_of}
use Rattle.dhcp_wire.specs.declared.dhcpv4.option_kinds.TheConstants.{OPT_CLIENT_ID, OPT_DHCP_MESSAGE_TYPE}
use Rattle.dhcp_wire.specs.declared.dhcpv4.option_kinds.TheConstants.{OPT_DOMAIN_NAME_SERVER, OPT_IP_LEASE_TIME}
use Rattle.dhcp_wire.specs.declared.dhcpv4.option_kinds.TheConstants.{OPT_MAX_DHCP_MESSAGE_SIZE, OPT_REQUESTED_IP}
use Rattle.dhcp_wire.specs.declared.dhcpv4.option_kinds.TheConstants.{OPT_PARAMETER_REQUEST_LIST, OPT_ROUTER}
use Rattle.dhcp_wire.specs.declared.dhcpv4.option_kinds.TheConstants.{OPT_REBINDING_TIME_VALUE, OPT_SUBNET_MASK}
use Rattle.dhcp_wire.specs.declared.dhcpv4.option_kinds.TheConstants.{OPT_RENEWAL_TIME_VALUE, OPT_SERVER_IDENTIFIER}
use Rattle.dhcp_wire.specs.declared.dhcpv4.refusal.Refusal.{Refusal}
use Rattle.dhcp_wire.specs.declared.dhcpv4.repr.Repr.{Repr}
use Rattle.dhcp_wire.specs.Dhcpv4Options.{OptionValue, option, option_text, value_of_option, Options}
use Rattle.dhcp_wire.specs.Dhcpv4OptionValue.{addresses_in, first_address}
use Rattle.dhcp_wire.specs.Dhcpv4Packet.{op_field, htype_field, hlen_field, xid_field, secs_field, flags_field}
use Rattle.dhcp_wire.specs.Dhcpv4Packet.{ciaddr_field, yiaddr_field, siaddr_field, giaddr_field, chaddr_field}
use Rattle.dhcp_wire.specs.Dhcpv4Packet.{magic_field, options_in, ethernet_type, ethernet_len, magic_cookie}
use Rattle.dhcp_wire.specs.Dhcpv4Tables.{opcode_number, operation_of, message_number, message_of, broadcast_bit}

-- ---- the value by its content

pub record Value : Type 0 where
  pub message_type : MessageType
  pub transaction_id : ℕ
  pub secs : ℕ
  pub client_hardware_address : Ethernet
  pub client_ip : Ipv4Address
  pub your_ip : Ipv4Address
  pub server_ip : Ipv4Address
  pub router : Option Ipv4Address
  pub subnet_mask : Option Ipv4Address
  pub relay_agent_ip : Ipv4Address
  pub broadcast : Bool
  pub requested_ip : Option Ipv4Address
  pub client_identifier : Option Ethernet
  pub server_identifier : Option Ipv4Address
  pub parameter_request_list : Option (List ℕ)
  pub dns_servers : Option (List Ipv4Address)
  pub max_size : Option ℕ
  pub lease_duration : Option ℕ
  pub renew_duration : Option ℕ
  pub rebind_duration : Option ℕ
  pub additional_options : List OptionValue

abbrev pub value_of : Repr → Value
value_of r = record {
  message_type = r.message_type;
  transaction_id = r.transaction_id;
  secs = r.secs;
  client_hardware_address = ethernet_of r.client_hardware_address;
  client_ip = r.client_ip;
  your_ip = r.your_ip;
  server_ip = r.server_ip;
  router = r.router;
  subnet_mask = r.subnet_mask;
  relay_agent_ip = r.relay_agent_ip;
  broadcast = r.broadcast;
  requested_ip = r.requested_ip;
  client_identifier = option_map ethernet_of r.client_identifier;
  server_identifier = r.server_identifier;
  parameter_request_list = option_map (λ l. l.now) r.parameter_request_list;
  dns_servers = option_map (λ l. l.items) r.dns_servers;
  max_size = r.max_size;
  lease_duration = r.lease_duration;
  renew_duration = r.renew_duration;
  rebind_duration = r.rebind_duration;
  additional_options = map value_of_option r.additional_options.now;
}

-- ---- its text

abbrev pub flags_of : Bool → ℕ
flags_of true = broadcast_bit
flags_of false = 0

-- the fixed part: Ethernet, no relay passed, and no names
abbrev pub header_fields : Value → List (List ℕ)
header_fields v =
    be8 (opcode_number (operation_of v.message_type)) ∷ be8 ethernet_type ∷ be8 ethernet_len ∷ be8 0
    ∷ be32 v.transaction_id
    ∷ be16 v.secs ∷ be16 (flags_of v.broadcast)
    ∷ octets_of v.client_ip
    ∷ octets_of v.your_ip
    ∷ octets_of v.server_ip
    ∷ octets_of v.relay_agent_ip
    ∷ ethernet_octets v.client_hardware_address
    ∷ replicate 202 0
    ∷ be32 magic_cookie ∷ []

-- an option of a kind, where there are data for it
pub record Slot : Type 0 where
  pub kind : ℕ
  pub body : Option (List ℕ)

abbrev pub slot : ℕ → Option (List ℕ) → Slot
slot kind body = record { kind = kind; body = body }

abbrev pub of_slot : ℕ → Option (List ℕ) → List OptionValue → List OptionValue
of_slot kind None rest = rest
of_slot kind (Some body) rest = option kind body ∷ rest

abbrev pub of_slots : List Slot → List OptionValue
of_slots [] = []
of_slots (s ∷ rest) = of_slot s.kind s.body (of_slots rest)

-- the options that a value has for its fields, in the order in which they are written (RFC 2132 sections 3 and 9)
abbrev pub slots_of : Value → List Slot
slots_of v =
    slot OPT_DHCP_MESSAGE_TYPE (Some (be8 (message_number v.message_type)))
    ∷ slot OPT_CLIENT_ID (option_map (λ address. ethernet_type ∷ ethernet_octets address) v.client_identifier)
    ∷ slot OPT_SERVER_IDENTIFIER (option_map octets_of v.server_identifier)
    ∷ slot OPT_ROUTER (option_map octets_of v.router)
    ∷ slot OPT_SUBNET_MASK (option_map octets_of v.subnet_mask)
    ∷ slot OPT_REQUESTED_IP (option_map octets_of v.requested_ip)
    ∷ slot OPT_MAX_DHCP_MESSAGE_SIZE (option_map be16 v.max_size)
    ∷ slot OPT_IP_LEASE_TIME (option_map be32 v.lease_duration)
    ∷ slot OPT_RENEWAL_TIME_VALUE (option_map be32 v.renew_duration)
    ∷ slot OPT_REBINDING_TIME_VALUE (option_map be32 v.rebind_duration)
    ∷ slot OPT_PARAMETER_REQUEST_LIST v.parameter_request_list
    ∷ slot OPT_DOMAIN_NAME_SERVER (option_map (flat_map octets_of) v.dns_servers) ∷ []

abbrev pub options_of : Value → List OptionValue
options_of v = of_slots (slots_of v) ++ v.additional_options

unfoldable pub options_text : List OptionValue → List ℕ
options_text [] = []
options_text (o ∷ os) = option_text o ++ options_text os

unfoldable pub header_text : Value → List ℕ
header_text v = fields (header_fields v)

-- the header, the options, and the end mark
abbrev pub text : Value → List ℕ
text v = header_text v ++ (options_text (options_of v) ++ 255 ∷ [])

-- ---- the grammar

-- data of a given number of bytes, and nothing of other data
abbrev pub of_len : ℕ → List ℕ → Option (List ℕ)
of_len n d = if length d == n then Some d else None

-- what an option of this kind gives by its data; one of another kind gives nothing
abbrev pub said : {A : Type 0} → ℕ → (List ℕ → Option A) → OptionValue → Option A
said kind says o = if o.kind == kind then says o.body else None

-- a number in a given number of bytes, the highest first
abbrev pub number_in : ℕ → List ℕ → Option ℕ
number_in n d = option_map (big_number n) (of_len n d)

abbrev pub address_in : List ℕ → Option Ipv4Address
address_in d = option_map first_address (of_len 4 d)

-- an address of Ethernet by its octets
abbrev pub ethernet_at : List ℕ → Ethernet
ethernet_at l = record {
  a = slice_index l 0;
  b = slice_index l 1;
  c = slice_index l 2;
  d = slice_index l 3;
  e = slice_index l 4;
  f = slice_index l 5;
}

-- an address of Ethernet after the number of its kind of hardware (RFC 2132 section 9.14)
abbrev pub identifier_in : List ℕ → Option Ethernet
identifier_in d = option_map (λ l. ethernet_at (drop 1 l)) (of_len 7 d)

-- the first whole addresses, at most five
abbrev pub servers_in : List ℕ → Option (List Ipv4Address)
servers_in d = Some (take 5 (addresses_in d))

-- the type of a message whose operation is that of the packet
abbrev pub type_in : ℕ → List ℕ → Option MessageType
type_in op d =
    if (length d == 1) && (opcode_number (operation_of (message_of (slice_index d 0))) == op)
    then Some (message_of (slice_index d 0)) else None

-- the type of message that the last option gives whose type has this operation
abbrev pub type_among : ℕ → List OptionValue → Option MessageType
type_among op options = last_of (said OPT_DHCP_MESSAGE_TYPE (type_in op)) options

-- A value in which each field that options give is made anew: of its type, its kind of option, how the data of such an
-- option are read, and what the field was.
abbrev pub given : ((A : Type 0) → ℕ → (List ℕ → Option A) → Option A → Option A) → Value → Value
given give v = record v {
  router = give Ipv4Address OPT_ROUTER address_in v.router;
  subnet_mask = give Ipv4Address OPT_SUBNET_MASK address_in v.subnet_mask;
  requested_ip = give Ipv4Address OPT_REQUESTED_IP address_in v.requested_ip;
  client_identifier = give Ethernet OPT_CLIENT_ID identifier_in v.client_identifier;
  server_identifier = give Ipv4Address OPT_SERVER_IDENTIFIER address_in v.server_identifier;
  parameter_request_list = give (List ℕ) OPT_PARAMETER_REQUEST_LIST Some v.parameter_request_list;
  dns_servers = give (List Ipv4Address) OPT_DOMAIN_NAME_SERVER servers_in v.dns_servers;
  max_size = give ℕ OPT_MAX_DHCP_MESSAGE_SIZE (number_in 2) v.max_size;
  lease_duration = give ℕ OPT_IP_LEASE_TIME (number_in 4) v.lease_duration;
  renew_duration = give ℕ OPT_RENEWAL_TIME_VALUE (number_in 4) v.renew_duration;
  rebind_duration = give ℕ OPT_REBINDING_TIME_VALUE (number_in 4) v.rebind_duration;
}

-- each field from the last option of its kind and length, or as it was where there is none
unfoldable pub with_options : List OptionValue → Value → Value
with_options options = given (λ A kind says field. option_or (last_of (said kind says) options) field)

-- of the flags that have a name, the one of a packet that is to be answered to everyone (RFC 2131 section 4.1)
abbrev pub has_broadcast : ℕ → Bool
has_broadcast flags = bit_and (bit_and flags broadcast_bit) broadcast_bit == broadcast_bit

-- the value of the fixed part (RFC 2131 section 2), with this type of message, and of no options
abbrev pub fixed_value : List ℕ → MessageType → Value
fixed_value bytes message_type = record {
  message_type = message_type;
  transaction_id = number_of xid_field bytes;
  secs = number_of secs_field bytes;
  client_hardware_address = ethernet_at (bytes_of chaddr_field bytes);
  client_ip = first_address (bytes_of ciaddr_field bytes);
  your_ip = first_address (bytes_of yiaddr_field bytes);
  server_ip = first_address (bytes_of siaddr_field bytes);
  router = None;
  subnet_mask = None;
  relay_agent_ip = first_address (bytes_of giaddr_field bytes);
  broadcast = has_broadcast (number_of flags_field bytes);
  requested_ip = None;
  client_identifier = None;
  server_identifier = None;
  parameter_request_list = None;
  dns_servers = None;
  max_size = None;
  lease_duration = None;
  renew_duration = None;
  rebind_duration = None;
  additional_options = [];
}

-- a client identifier of 7 bytes is an address of Ethernet
abbrev pub IsOfEthernet : OptionValue → Type 0
IsOfEthernet o = o.kind ≡ OPT_CLIENT_ID → length o.body ≡ 7 → slice_index o.body 0 ≡ ethernet_type

abbrev pub AreOfEthernet : List OptionValue → Type 0
AreOfEthernet [] = Unit {0}
AreOfEthernet (o ∷ os) = IsOfEthernet o × AreOfEthernet os

-- The checks of the header, in their order: whole, of Ethernet, and with the cookie of DHCP (RFC 2131 section 3).
abbrev pub header_checks : List ℕ → List (Check Refusal)
header_checks bytes =
    check (Reaches magic_field bytes) Refusal.Short
    ∷ check (byte_of htype_field bytes ≡ ethernet_type) (Refusal.HardwareType (byte_of htype_field bytes))
    ∷ check (byte_of hlen_field bytes ≡ ethernet_len) (Refusal.HardwareLen (byte_of hlen_field bytes))
    ∷ check (number_of magic_field bytes ≡ magic_cookie) Refusal.MagicCookie
    ∷ []

abbrev pub HasHeader : List ℕ → Type 0
HasHeader bytes = Passes (header_checks bytes)

-- The bytes are a packet of this value: of Ethernet, with the cookie of DHCP, and with a type of message that has the
-- operation of the packet.
pub record IsPacket (bytes : List ℕ) (v : Value) : Type 0 where
  pub options : List OptionValue
  pub header : HasHeader bytes
  pub listed : Options (options_in bytes) options
  pub identifiers : AreOfEthernet options
  pub message_type : type_among (byte_of op_field bytes) options ≡ Some v.message_type
  pub value : v ≡ with_options options (fixed_value bytes v.message_type)
