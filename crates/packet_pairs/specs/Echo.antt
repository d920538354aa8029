-- Echoes (RFC 792, RFC 4443 section 4): a reply goes back to the asker, with the identifier and the sequence number of
-- its request, and comes from the address that was asked. A request to a group is answered from other addresses (RFC
-- 4443 section 4.2), so that its replies can't be told: it awaits none.
use Rattle.std.specs.Prelude.{◌≡◌, List, ℕ}
use Rattle.wirebase.specs.Bytes.{Reaches, byte_of, number_of}
use Rattle.wirebase.specs.Icmp.{ident_field, seq_no_field, type_field}
use Rattle.wirebase.specs.Ipv4 as ipv4
use Rattle.wirebase.specs.Ipv6Address as ipv6
use Rattle.packet_pairs.specs.Exchange.{ExchangeValue, answering, asking}
use Rattle.packet_pairs.specs.Key.{KeyValue, echo, reversed}
use Rattle.packet_pairs.specs.Types.{Addresses}

abbrev pub echo_in : Addresses → List ℕ → KeyValue
echo_in addresses bytes = echo addresses (number_of ident_field bytes) (number_of seq_no_field bytes)

abbrev pub GoesToGroup : Addresses → Type 0
GoesToGroup (Addresses.V4 source destination) = ipv4.IsMulticast destination
GoesToGroup (Addresses.V6 source destination) = ipv6.IsMulticast destination

-- a message that is sent between these addresses, the source first, where these are the types of a request and of a
-- reply
pub data IsEcho (request reply : ℕ) (addresses : Addresses) (bytes : List ℕ) (e : ExchangeValue) : Type 0 where
  asks : Reaches seq_no_field bytes → byte_of type_field bytes ≡ request → (GoesToGroup addresses → ⊥)
      → e ≡ asking (echo_in addresses bytes) → IsEcho request reply addresses bytes e
  answers : Reaches seq_no_field bytes → byte_of type_field bytes ≡ reply
      → e ≡ answering (echo_in (reversed addresses) bytes) → IsEcho request reply addresses bytes e

-- those of ICMPv4, and of ICMPv6
abbrev pub IsEcho4 : Addresses → List ℕ → ExchangeValue → Type 0
IsEcho4 = IsEcho 8 0

abbrev pub IsEcho6 : Addresses → List ℕ → ExchangeValue → Type 0
IsEcho6 = IsEcho 128 129
