-- What is told of the header of a fragment is the refusal of the datagram.
use Rattle.frame_wire.proofs.Words.{◌≡◌, ◌∙◌, ◌<◌, IpProtocol, List, Passes, bytes_of, dst_addr_field, inr, length}
use Rattle.frame_wire.proofs.Words.{next_header_in, octets_of, subst, sym, ℕ}
use Rattle.frame_wire.specs.Datagram.{IsBroken6, RefusesBehind6}
use Rattle.frame_wire.specs.DatagramHeaders.{LeadsToTorn}
use Rattle.frame_wire.specs.DatagramJoined.{RefusesJoined6}
use Rattle.frame_wire.specs.private.Parts.{TellsFragment}
use Rattle.frame_wire.specs.declared.datagram.Refusal.{Refusal}
use Rattle.wirebase.specs.Ipv6.{src_addr_field}
use Rattle.wirebase.specs.declared.ipv6.address.Ipv6Address.{Ipv6Address}

torn : (p : IpProtocol) (bytes start header final : List ℕ) (q r : IpProtocol) → r ≡ IpProtocol.Ipv6Frag
    → length header < 8 → q ≡ IpProtocol.Ipv6Frag → Passes p bytes start q header final → LeadsToTorn p bytes start r
torn p bytes start header final q r is short fragment passes = record {
  rest = header;
  final = final;
  passes = subst (λ x. Passes p bytes start x header final) (fragment ∙ sym is) passes;
  torn = inr (is, short);
}

at_fragment : (p : IpProtocol) (bytes start header final : List ℕ) (q : IpProtocol) → q ≡ IpProtocol.Ipv6Frag
    → Passes p bytes start q header final → Passes p bytes start IpProtocol.Ipv6Frag header final
at_fragment p bytes start header final q fragment passes =
    subst (λ x. Passes p bytes start x header final) fragment passes

-- of a datagram behind its fixed header
pub refuses_behind : (bytes behind : List ℕ) (source final : Ipv6Address) (q : IpProtocol) (header : List ℕ)
    (refusal : Refusal) → (IsBroken6 bytes behind → ⊥) → octets_of source ≡ bytes_of src_addr_field bytes
    → q ≡ IpProtocol.Ipv6Frag
    → Passes (next_header_in bytes) behind (bytes_of dst_addr_field bytes) q header (octets_of final)
    → TellsFragment source final header refusal → RefusesBehind6 bytes behind refusal
refuses_behind bytes behind source final q header (Refusal.Extension p) unbroken from fragment passes tells =
    (unbroken, torn _ behind _ header _ q p tells.0 tells.1 fragment passes)
refuses_behind bytes behind source final q header (Refusal.Fragment h) unbroken from fragment passes tells = (
  unbroken,
  record {
    source = source;
    destination = final;
    header = header;
    passes = at_fragment _ behind _ header _ q fragment passes;
    whole = tells.whole;
    no_atomic = tells.no_atomic;
    source_is = from;
    addresses = tells.addresses;
    protocol = tells.protocol;
    ident = tells.ident;
    frag_offset = tells.frag_offset;
    more_frags = tells.more_frags;
  },
)
refuses_behind bytes behind source final q header Refusal.Short unbroken from fragment passes tells = absurd tells
refuses_behind bytes behind source final q header (Refusal.Version n) unbroken from fragment passes tells = absurd tells
refuses_behind bytes behind source final q header (Refusal.HeaderLen n) unbroken from fragment passes tells =
    absurd tells
refuses_behind bytes behind source final q header (Refusal.TotalLen n) unbroken from fragment passes tells =
    absurd tells
refuses_behind bytes behind source final q header (Refusal.Cut h) unbroken from fragment passes tells = absurd tells
refuses_behind bytes behind source final q header Refusal.Jumbogram unbroken from fragment passes tells = absurd tells

-- of one that was put together
pub refuses_joined : (source destination : Ipv6Address) (p : IpProtocol) (bytes : List ℕ) (final : Ipv6Address)
    (q : IpProtocol) (header : List ℕ) (refusal : Refusal) → q ≡ IpProtocol.Ipv6Frag
    → Passes p bytes (octets_of destination) q header (octets_of final)
    → TellsFragment source final header refusal → RefusesJoined6 source destination p bytes refusal
refuses_joined source destination p bytes final q header (Refusal.Extension r) fragment passes tells =
    torn p bytes _ header _ q r tells.0 tells.1 fragment passes
refuses_joined source destination p bytes final q header (Refusal.Fragment h) fragment passes tells = record {
  final = final;
  header = header;
  passes = at_fragment p bytes _ header _ q fragment passes;
  fragment = tells;
}
refuses_joined source destination p bytes final q header Refusal.Short fragment passes tells = absurd tells
refuses_joined source destination p bytes final q header (Refusal.Version n) fragment passes tells = absurd tells
refuses_joined source destination p bytes final q header (Refusal.HeaderLen n) fragment passes tells = absurd tells
refuses_joined source destination p bytes final q header (Refusal.TotalLen n) fragment passes tells = absurd tells
refuses_joined source destination p bytes final q header (Refusal.Cut h) fragment passes tells = absurd tells
refuses_joined source destination p bytes final q header Refusal.Jumbogram fragment passes tells = absurd tells
