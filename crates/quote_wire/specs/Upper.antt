-- What the headers that extend IPv6 lead to in a quote, which may end within them (RFC 8200 section 4).
use Rattle.std.specs.Prelude.{◌≡◌, ◌≢◌, ◌⊎◌, ◌≤◌, ◌<◌, ◌/◌, List, None, Option, Some, ℕ, drop, length, slice_index}
use Rattle.std.specs.Prelude.{take, zero}
use Rattle.wirebase.specs.Bytes.{field, number_of}
use Rattle.wirebase.specs.Ip.{protocol_of}
use Rattle.wirebase.specs.declared.ip.IpProtocol.{IpProtocol}
use Rattle.frame_wire.specs.DatagramHeaders.{IsExtension, HasExtension, extension_end}
use Rattle.quote_wire.specs.declared.quote.Ipv6Quote.{Ipv6Quote}
use Rattle.quote_wire.specs.declared.quote.upper.Upper.{Upper}

-- what is quoted of the packet's own payload: zeros may fill the quote up behind it (RFC 4884 section 4). A length of 0
-- before hop-by-hop options is taken for that of a jumbogram, which is longer than any quote (RFC 2675 section 2).
abbrev pub own_part : ℕ → IpProtocol → List ℕ → List ℕ
own_part zero IpProtocol.HopByHop payload = payload
own_part len next_header payload = take len payload

abbrev pub own_payload : Ipv6Quote → List ℕ
own_payload q = own_part q.payload_len q.next_header q.payload.now

-- the protocol that they lead to, and the bytes from its header on
pub record UpperValue : Type 0 where
  pub protocol : IpProtocol
  pub octets : List ℕ

abbrev pub value_of : Upper → UpperValue
value_of upper = record { protocol = upper.protocol; octets = upper.octets.now }

-- headers of these protocols are passed: options, routing, fragments
abbrev pub IsPassed : IpProtocol → Type 0
IsPassed p = IsExtension p ⊎ (p ≡ IpProtocol.Ipv6Frag)

-- the offset in the header of a fragment, in units of 8 bytes (section 4.5); only the first, at 0, has the headers
-- behind it
abbrev pub frag_offset_in : List ℕ → ℕ
frag_offset_in header = number_of (field 2 4) header / 8

-- where a header ends that leads on
pub data EndsAt (p : IpProtocol) (bytes : List ℕ) (end : ℕ) : Type 0 where
  extension : IsExtension p → HasExtension bytes → end ≡ extension_end bytes → EndsAt p bytes end
  fragment : p ≡ IpProtocol.Ipv6Frag → 8 ≤ length bytes → frag_offset_in bytes ≡ 0 → end ≡ 8 → EndsAt p bytes end

-- a header that leads no further: it is cut, or that of a later fragment
pub data EndsIn (p : IpProtocol) (bytes : List ℕ) : Type 0 where
  cut : IsExtension p → (HasExtension bytes → ⊥) → EndsIn p bytes
  cut_fragment : p ≡ IpProtocol.Ipv6Frag → length bytes < 8 → EndsIn p bytes
  later_fragment : p ≡ IpProtocol.Ipv6Frag → 8 ≤ length bytes → frag_offset_in bytes ≢ 0 → EndsIn p bytes

-- What a protocol and the bytes behind it lead to, past as many headers as there are: another protocol, or none.
pub data LeadsTo : IpProtocol → List ℕ → Option UpperValue → Type 0 where
  here : {p : IpProtocol} {bytes : List ℕ} {u : Option UpperValue} → (IsPassed p → ⊥)
      → u ≡ Some (record { protocol = p; octets = bytes }) → LeadsTo p bytes u
  none : {p : IpProtocol} {bytes : List ℕ} {u : Option UpperValue} → EndsIn p bytes → u ≡ None → LeadsTo p bytes u
  past : {p : IpProtocol} {bytes : List ℕ} {u : Option UpperValue} (end : ℕ) → EndsAt p bytes end
      → LeadsTo (protocol_of (slice_index bytes 0)) (drop end bytes) u → LeadsTo p bytes u
