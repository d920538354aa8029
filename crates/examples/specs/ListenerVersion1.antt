-- What a host that listens to multicast groups over IPv6 sends by version 1 of the protocol, and when (RFC 2710).
--
--  0                   1                   2                   3
--  0 1 2 3 4 5 6 7 8 9 0 1 2 3 4 5 6 7 8 9 0 1 2 3 4 5 6 7 8 9 0 1
-- +---------------+---------------+-------------------------------+
-- |     type      |     code      |           checksum            |
-- +---------------+---------------+-------------------------------+
-- |     maximum response delay    |           reserved            |
-- +-------------------------------+-------------------------------+
-- |               multicast address, 16 bytes                     |
-- +---------------------------------------------------------------+
use Rattle.std.specs.Prelude.{◌≡◌, ◌⊎◌, ℕ, ◌*◌, List, ◌∷◌, length, replicate}
use Rattle.control_wire.specs.Bytes.{byte_of, bytes_of, number_of}
use Rattle.control_wire.specs.Checksum.{IsGood, sealed}
use Rattle.control_wire.specs.Duration.{micros_of}
use Rattle.control_wire.specs.DurationType.{Duration}
use Rattle.control_wire.specs.Icmp.{type_field, code_field, checksum_field}
use Rattle.control_wire.specs.Icmpv6Packet.{message_sum}
use Rattle.control_wire.specs.Ipv6Address.{octets_of, IsLinkLocal}
use Rattle.control_wire.specs.Ipv6AddressType.{Ipv6Address}
use Rattle.control_wire.specs.MldPacket.{max_resp_code_field, mcast_addr_field}
use Rattle.examples.specs.Router.{IsAllRouters}

-- the text of a report or a done message, with the checksum zero
abbrev pub text_of : ℕ → Ipv6Address → List ℕ
text_of kind group = kind ∷ 0 ∷ 0 ∷ 0 ∷ 0 ∷ 0 ∷ 0 ∷ 0 ∷ octets_of group

-- the message with its checksum, between these addresses
abbrev pub IsMessage : ℕ → Ipv6Address → Ipv6Address → Ipv6Address → List ℕ → Type 0
IsMessage kind own to group bytes = bytes ≡ sealed checksum_field (text_of kind group) (message_sum own to 24)

-- the done message, to all routers
abbrev pub IsDone : Ipv6Address → Ipv6Address → List ℕ → Type 0
IsDone own group bytes = (routers : Ipv6Address) × IsAllRouters routers × IsMessage 132 own routers group bytes

-- a query that was not forwarded, from a router of the link, with a good checksum, for a group or for all by ::, to be
-- answered within this time, which it counts in milliseconds (RFC 2710 section 3, RFC 3810 section 8.1)
pub record IsQueryFor (querier asked : Ipv6Address) (hops : ℕ) (group : Ipv6Address) (bytes : List ℕ)
    (time : Duration) : Type 0 where
  pub hops_are : hops ≡ 1
  pub router : IsLinkLocal querier
  pub whole : length bytes ≡ 24
  pub kind : byte_of type_field bytes ≡ 130
  pub code : byte_of code_field bytes ≡ 0
  pub good : IsGood bytes (message_sum querier asked 24)
  pub asks : (bytes_of mcast_addr_field bytes ≡ octets_of group) ⊎ (bytes_of mcast_addr_field bytes ≡ replicate 16 0)
  pub time_is : micros_of time ≡ 1000 * number_of max_resp_code_field bytes
