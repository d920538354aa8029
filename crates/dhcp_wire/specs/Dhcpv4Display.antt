-- The printed texts of packets of DHCP and their parts.
use Rattle.std.specs.Prelude.{ℕ, Bool, true, false, List, [], ◌∷◌, ◌++◌, codes, decimal, length, flat_map, Option, None}
use Rattle.std.specs.Prelude.{Some, ◌==◌, if◌then◌else◌}
use Rattle.std.specs.Int.RustNames.{bit_and}
use Rattle.std.specs.Option.{option_map}
use Rattle.dhcp_wire.specs.Words.{MessageType, OpCode, address_text, hex_colons, pieces}
use Rattle.wirebase.specs.Ethernet.{Ethernet, octets_of as ethernet_octets}
use Rattle.dhcp_wire.specs.Dhcpv4.{Value}
use Rattle.dhcp_wire.specs.Dhcpv4Tables.{broadcast_bit}

-- a number that has no name
abbrev pub unknown_display : ℕ → List ℕ
unknown_display n = pieces (codes "unknown " ∷ decimal n ∷ [])

-- an operation (RFC 2131 section 2)
abbrev pub opcode_display : OpCode → List ℕ
opcode_display OpCode.Request = codes "BOOTREQUEST"
opcode_display OpCode.Reply = codes "BOOTREPLY"
opcode_display (OpCode.Unknown n) = unknown_display n

-- a type of message (RFC 2132 section 9.6)
abbrev pub message_display : MessageType → List ℕ
message_display MessageType.Discover = codes "DISCOVER"
message_display MessageType.Offer = codes "OFFER"
message_display MessageType.Request = codes "REQUEST"
message_display MessageType.Decline = codes "DECLINE"
message_display MessageType.Ack = codes "ACK"
message_display MessageType.Nak = codes "NAK"
message_display MessageType.Release = codes "RELEASE"
message_display MessageType.Inform = codes "INFORM"
message_display (MessageType.Unknown n) = unknown_display n

-- the flag that has a name (RFC 2131 section 2), or a line where it is not set
abbrev pub flags_display : ℕ → List ℕ
flags_display flags = if bit_and flags broadcast_bit == 0 then codes "-" else codes "broadcast"

-- ---- a packet

-- a field after a space, its name and `=`, where it is there
abbrev pub named : List ℕ → Option (List ℕ) → List ℕ
named name None = []
named name (Some value) = pieces (codes " " ∷ name ∷ codes "=" ∷ value ∷ [])

-- texts with commas between them
abbrev pub commas : {A : Type 0} → (A → List ℕ) → List A → List ℕ
commas text [] = []
commas text (x ∷ rest) = text x ++ flat_map (λ next. codes "," ++ text next) rest

abbrev pub boolean_display : Bool → List ℕ
boolean_display true = codes "true"
boolean_display false = codes "false"

abbrev pub ethernet_text : Ethernet → List ℕ
ethernet_text address = hex_colons (ethernet_octets address)

-- the type of the message, the numbers of the fixed part, and the client's hardware address
abbrev pub exchange_display : Value → List ℕ
exchange_display v =
    pieces (codes "DHCPv4 " ∷ message_display v.message_type
    ∷ codes " xid=" ∷ decimal v.transaction_id
    ∷ codes " secs=" ∷ decimal v.secs
    ∷ codes " client_hardware_address=" ∷ ethernet_text v.client_hardware_address ∷ [])

-- the addresses of client and server
abbrev pub hosts_display : Value → List ℕ
hosts_display v =
    pieces (codes " client_ip=" ∷ address_text v.client_ip
    ∷ codes " your_ip=" ∷ address_text v.your_ip
    ∷ codes " server_ip=" ∷ address_text v.server_ip ∷ [])

-- the addresses that options give, and the rest of the fixed part
abbrev pub networks_display : Value → List ℕ
networks_display v =
    pieces (named (codes "router") (option_map address_text v.router)
    ∷ named (codes "subnet_mask") (option_map address_text v.subnet_mask)
    ∷ codes " relay_agent_ip=" ∷ address_text v.relay_agent_ip
    ∷ codes " broadcast=" ∷ boolean_display v.broadcast
    ∷ named (codes "requested_ip") (option_map address_text v.requested_ip)
    ∷ named (codes "client_identifier") (option_map ethernet_text v.client_identifier)
    ∷ named (codes "server_identifier") (option_map address_text v.server_identifier) ∷ [])

abbrev pub fixed_display : Value → List ℕ
fixed_display v = pieces (exchange_display v ∷ hosts_display v ∷ networks_display v ∷ [])

-- the lists: kinds of option, and servers
abbrev pub requests_display : Value → List ℕ
requests_display v = named (codes "parameter_request_list") (option_map (commas decimal) v.parameter_request_list)

abbrev pub servers_display : Value → List ℕ
servers_display v = named (codes "dns_servers") (option_map (commas address_text) v.dns_servers)

abbrev pub lists_display : Value → List ℕ
lists_display v = pieces (requests_display v ∷ servers_display v ∷ [])

-- the numbers that options give; times are in seconds
abbrev pub times_display : Value → List ℕ
times_display v =
    pieces (named (codes "max_size") (option_map decimal v.max_size)
    ∷ named (codes "lease_duration") (option_map decimal v.lease_duration)
    ∷ named (codes "renew_duration") (option_map decimal v.renew_duration)
    ∷ named (codes "rebind_duration") (option_map decimal v.rebind_duration) ∷ [])

-- how many additional options there are, where there are any
abbrev pub count_display : ℕ → List ℕ
count_display count = if count == 0 then [] else pieces (codes " additional_options=" ∷ decimal count ∷ [])

abbrev pub numbers_display : Value → List ℕ
numbers_display v = pieces (times_display v ∷ count_display (length v.additional_options) ∷ [])

abbrev pub repr_display : Value → List ℕ
repr_display v = pieces (fixed_display v ∷ lists_display v ∷ numbers_display v ∷ [])
