-- A client of DHCP: the messages that it sends, and what a server's message says to it (RFC 2131 section 4.4).
use Rattle.std.specs.Prelude.{◌≡◌, ◌≢◌, ℕ, ◌+◌, ◌-◌, nat_lt, Bool, false, List, [], ◌∷◌, ◌++◌, length, take, replicate}
use Rattle.std.specs.Prelude.{Option, None, Some, if◌then◌else◌}
use Rattle.std.specs.Option.{option_map}
use Rattle.control_wire.specs.Ethernet.{Ethernet}
use Rattle.control_wire.specs.HardwareAddress.{ethernet_of}
use Rattle.control_wire.specs.Ipv4.{octets_of}
use Rattle.control_wire.specs.Ipv4AddressType.{Ipv4Address}
use Rattle.control_wire.specs.LastOf.{last_of}
use Rattle.control_wire.specs.Dhcpv4.{Value, IsPacket, said, text}
use Rattle.control_wire.specs.Dhcpv4Format.{text_len}
use Rattle.control_wire.specs.Dhcpv4MessageTypeType.{MessageType}
use Rattle.control_wire.specs.Dhcpv4MessageTypeType.TheVariants as type_of
use Rattle.examples.specs.declared.lease.Answer.{Answer}
use Rattle.examples.specs.declared.lease.Answer.TheVariants as answer
use Rattle.examples.specs.declared.lease.Client.{Client}
use Rattle.examples.specs.declared.lease.Lease.{Lease}
use Rattle.examples.specs.declared.lease.Message.{Message}
use Rattle.examples.specs.declared.lease.Message.TheVariants as message

-- ---- what a client sends

-- no address, 0.0.0.0
abbrev pub nowhere : Ipv4Address
nowhere = record { a = 0; b = 0; c = 0; d = 0 }

-- a client, and the form of its messages
pub record ClientValue : Type 0 where
  pub address : Ethernet
  pub broadcast : Bool
  pub requested : List ℕ
  pub min_len : ℕ

abbrev pub client_of : Client → ClientValue
client_of client = record {
  address = ethernet_of client.address;
  broadcast = client.broadcast;
  requested = client.requested.now;
  min_len = client.min_len;
}

-- a list of kinds of option, where there are some (RFC 2132 section 9.8)
abbrev pub listed : List ℕ → Option (List ℕ)
listed [] = None
listed (kind ∷ kinds) = Some (kind ∷ kinds)

-- A message of this type in an exchange, in which the client has an address, and names an address and a server. All
-- else is 0 or left out (RFC 2131 section 4.4.1, table 5).
abbrev pub sent : Ethernet → ℕ → MessageType → Ipv4Address → Option Ipv4Address → Option Ipv4Address → Value
sent client id kind own address server = record {
  message_type = kind;
  transaction_id = id;
  secs = 0;
  client_hardware_address = client;
  client_ip = own;
  your_ip = nowhere;
  server_ip = nowhere;
  router = None;
  subnet_mask = None;
  relay_agent_ip = nowhere;
  broadcast = false;
  requested_ip = address;
  client_identifier = Some client;
  server_identifier = server;
  parameter_request_list = None;
  dns_servers = None;
  max_size = None;
  lease_duration = None;
  renew_duration = None;
  rebind_duration = None;
  additional_options = [];
}

-- a message that is to be answered: it says where the answer is to be sent, and which options the client requests
abbrev pub asked : ClientValue → ℕ → MessageType → Ipv4Address → Option Ipv4Address → Option Ipv4Address → Value
asked client id kind own address server =
    record (sent client.address id kind own address server) {
      broadcast = client.broadcast;
      parameter_request_list = listed client.requested;
    }

-- a client's message (RFC 2131 section 4.3.2, table 4, and section 4.4.1, table 5)
abbrev pub message_of : ClientValue → ℕ → Message → Value
message_of client id message.Discover = asked client id type_of.Discover nowhere None None
message_of client id (message.Select server address) =
    asked client id type_of.Request nowhere (Some address) (Some server)
message_of client id (message.Reboot address) = asked client id type_of.Request nowhere (Some address) None
message_of client id (message.Renew address) = asked client id type_of.Request address None None
message_of client id (message.Rebind address) = asked client id type_of.Request address None None
message_of client id (message.Decline server address) =
    sent client.address id type_of.Decline nowhere (Some address) (Some server)
message_of client id (message.Release server address) =
    sent client.address id type_of.Release address None (Some server)

-- a packet, and zeros after it up to this many bytes
abbrev pub padded : ℕ → Value → List ℕ
padded min_len v = text v ++ replicate (min_len - text_len v) 0

abbrev pub padded_len : ℕ → Value → ℕ
padded_len min_len v = text_len v + (min_len - text_len v)

-- ---- what a server's message says

-- what a client is given; times are in seconds
pub record LeaseValue : Type 0 where
  pub address : Ipv4Address
  pub server : Ipv4Address
  pub subnet_mask : Option Ipv4Address
  pub router : Option Ipv4Address
  pub dns_servers : Option (List Ipv4Address)
  pub lease_duration : Option ℕ
  pub renew_duration : Option ℕ
  pub rebind_duration : Option ℕ

abbrev pub value_of : Lease → LeaseValue
value_of lease = record {
  address = lease.address;
  server = lease.server;
  subnet_mask = lease.subnet_mask;
  router = lease.router;
  dns_servers = option_map (λ l. l.items) lease.dns_servers;
  lease_duration = lease.lease_duration;
  renew_duration = lease.renew_duration;
  rebind_duration = lease.rebind_duration;
}

-- the lease of a packet from this server, with this router
abbrev pub lease_of : Value → Ipv4Address → Option Ipv4Address → LeaseValue
lease_of v server router = record {
  address = v.your_ip;
  server = server;
  subnet_mask = v.subnet_mask;
  router = router;
  dns_servers = v.dns_servers;
  lease_duration = v.lease_duration;
  renew_duration = v.renew_duration;
  rebind_duration = v.rebind_duration;
}

-- a lease is offered or granted, or the server refuses
pub data AnswerValue : Type 0 where
  offer : LeaseValue → AnswerValue
  ack : LeaseValue → AnswerValue
  nak : Ipv4Address → AnswerValue

abbrev pub answer_of : Answer → AnswerValue
answer_of (answer.Offer lease) = offer (value_of lease)
answer_of (answer.Ack lease) = ack (value_of lease)
answer_of (answer.Nak server) = nak server

-- the first address of a list of them
abbrev pub first_in : List ℕ → Option (List ℕ)
first_in d = if nat_lt (length d) 4 then None else Some (take 4 d)

-- a message of this type, which would give this lease, says this; no lease is of 0.0.0.0
abbrev pub Tells : MessageType → LeaseValue → AnswerValue → Type 0
Tells kind lease (offer told) = (kind ≡ type_of.Offer) × (lease.address ≢ nowhere) × (told ≡ lease)
Tells kind lease (ack told) = (kind ≡ type_of.Ack) × (lease.address ≢ nowhere) × (told ≡ lease)
Tells kind lease (nak server) = (kind ≡ type_of.Nak) × (server ≡ lease.server)

-- The bytes are a packet of this exchange and for this client, which names its server, and says this. The router is the
-- first one of the last option that has any.
pub record Answers (bytes : List ℕ) (id : ℕ) (client : Ethernet) (told : AnswerValue) : Type 0 where
  pub says : Value
  pub packet : IsPacket bytes says
  pub exchange : says.transaction_id ≡ id
  pub client_is : says.client_hardware_address ≡ client
  pub server : Ipv4Address
  pub server_is : says.server_identifier ≡ Some server
  pub router : Option Ipv4Address
  pub router_is : option_map octets_of router ≡ last_of (said 3 first_in) packet.options
  pub tells : Tells says.message_type (lease_of says server router) told
