-- DHCP (RFC 2131 section 3). A client's message and the answers to it have one transaction identifier and one client's
-- hardware address, so do a DISCOVER and the REQUEST after it: these are told apart by the answer that they await.
use Rattle.std.specs.Prelude.{◌≡◌, [], ◌∷◌, List, None, Option, Some, ℕ}
use Rattle.wirebase.specs.Bytes.{Reaches, bytes_of, number_of}
use Rattle.dhcp_wire.specs.Dhcpv4Packet.{chaddr_field, magic_cookie, magic_field, xid_field}
use Rattle.dhcp_wire.specs.Dhcpv4Tables.{message_of}
use Rattle.dhcp_wire.specs.declared.dhcpv4.tables.MessageType.{MessageType}
use Rattle.dhcp_options.specs.Joined.{octets_of}
use Rattle.dhcp_options.specs.Parts.{Answer, ArePartsOf}
use Rattle.packet_pairs.specs.Exchange.{ExchangeValue}
use Rattle.packet_pairs.specs.Key.{KeyValue, lease}
use Rattle.packet_pairs.specs.Types.{Reply, Role}

-- the option with the type of the message (RFC 2132 section 9.6)
abbrev pub type_option : ℕ
type_option = 53

-- A DISCOVER is answered by an OFFER, and a REQUEST or an INFORM by an ACK or a NAK; a DECLINE and a RELEASE are not
-- answered (RFC 2131 section 4.3).
abbrev pub part_in : MessageType → Option (Role × Reply)
part_in MessageType.Discover = Some (Role.Asks, Reply.Offer)
part_in MessageType.Offer = Some (Role.Answers, Reply.Offer)
part_in MessageType.Request = Some (Role.Asks, Reply.Decision)
part_in MessageType.Inform = Some (Role.Asks, Reply.Decision)
part_in MessageType.Ack = Some (Role.Answers, Reply.Decision)
part_in MessageType.Nak = Some (Role.Answers, Reply.Decision)
part_in _ = None

abbrev pub lease_in : Reply → List ℕ → KeyValue
lease_in reply bytes = lease reply (number_of xid_field bytes) (bytes_of chaddr_field bytes)

-- the packet has this type of message, in the first of its options that has one
pub record HasType (bytes : List ℕ) (kind : MessageType) : Type 0 where
  pub answers : List Answer
  pub n : ℕ
  pub more : List (List ℕ)
  pub parts : ArePartsOf bytes answers
  pub first : octets_of type_option answers ≡ (n ∷ []) ∷ more
  pub is : kind ≡ message_of n

-- a message of this type that asks or answers
pub record IsTyped (kind : MessageType) (bytes : List ℕ) (e : ExchangeValue) : Type 0 where
  pub role : Role
  pub reply : Reply
  pub part : part_in kind ≡ Some (role, reply)
  pub is : e ≡ record { role = role; key = lease_in reply bytes }

pub record IsLease (bytes : List ℕ) (e : ExchangeValue) : Type 0 where
  pub whole : Reaches magic_field bytes
  pub cookie : number_of magic_field bytes ≡ magic_cookie
  pub kind : MessageType
  pub typed : HasType bytes kind
  pub told : IsTyped kind bytes e
