-- What messages of DHCP say (RFC 2131): clients, and the addresses that are leased to them.
use Rattle.std.specs.Prelude.{◌≡◌, ◌==◌, ◌&&◌, [], ◌∷◌, Bool, List, None, Option, Some, ℕ, false, if◌then◌else◌, length}
use Rattle.std.specs.Prelude.{nat_le, nat_lt, slice_index, true}
use Rattle.wirebase.specs.Bytes.{byte_of, bytes_of, field as at, number_of}
use Rattle.dhcp_wire.specs.Dhcpv4Packet.{magic_cookie, magic_field, op_field, yiaddr_field}
use Rattle.dhcp_options.specs.Joined.{octets_of}
use Rattle.dhcp_options.specs.Parts.{Answer, ArePartsOf}
use Rattle.dhcp_fields.specs.Header.{hardware_address}
use Rattle.packet_stats.specs.Row.{MentionValue, said_of}
use Rattle.packet_stats.specs.Subject.{client, lease}

-- ---- requests

-- the fields up to the client's hardware address are there, and the operation is a request
abbrev pub is_request : List ℕ → Bool
is_request bytes = nat_le 44 (length bytes) && (byte_of op_field bytes == 1)

abbrev pub request_said : List ℕ → List MentionValue
request_said bytes = if is_request bytes then said_of (client (hardware_address bytes)) ∷ [] else []

-- ---- replies

-- there is room for options, the magic cookie stands before them (RFC 2131 section 3), and the operation is a reply
abbrev pub is_reply : List ℕ → Bool
is_reply bytes =
    nat_le 240 (length bytes) && ((number_of magic_field bytes == magic_cookie) && (byte_of op_field bytes == 2))

-- the first part of option 53 says that a message is an ACK (RFC 2132 section 9.6)
abbrev pub is_ack_type : List ℕ → Bool
is_ack_type octets = (length octets == 1) && (slice_index octets 0 == 5)

abbrev pub is_ack : List (List ℕ) → Bool
is_ack [] = false
is_ack (octets ∷ more) = is_ack_type octets

-- the seconds of a lease in the first part of option 51, which has 4 octets (RFC 2132 section 9.2)
abbrev pub seconds_in : List ℕ → Option ℕ
seconds_in octets = if length octets == 4 then Some (number_of (at 0 4) octets) else None

abbrev pub time_in : List (List ℕ) → Option ℕ
time_in [] = None
time_in (octets ∷ more) = seconds_in octets

-- an ACK leases an address to a client, where it gives one: the ACK of an INFORM does not (RFC 2131 section 3.4)
abbrev pub gives_address : List ℕ → Bool
gives_address bytes = nat_lt 0 (number_of yiaddr_field bytes)

abbrev pub address_said : List Answer → List ℕ → List MentionValue
address_said parts bytes =
    if gives_address bytes
    then said_of (lease (bytes_of yiaddr_field bytes) (hardware_address bytes) (time_in (octets_of 51 parts))) ∷ []
    else []

abbrev pub lease_said : List Answer → List ℕ → List MentionValue
lease_said parts bytes = if is_ack (octets_of 53 parts) then address_said parts bytes else []

-- ---- messages

-- a request, or a reply with its options
pub data DhcpSays (bytes : List ℕ) (ms : List MentionValue) : Type 0 where
  requests : is_reply bytes ≡ false → ms ≡ request_said bytes → DhcpSays bytes ms
  replies : (parts : List Answer) → is_reply bytes ≡ true → ArePartsOf bytes parts → ms ≡ lease_said parts bytes
      → DhcpSays bytes ms
