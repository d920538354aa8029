-- Headers are passed, one after another.
use Rattle.std.proofs.Common.{◌≡◌, arith, inl, inr, refl}
use Rattle.reassembly.specs.Types.{IpProtocol}
use Rattle.reassembly.proofs.Headers.{leads_here, leads_more, leads_nowhere}
use Rattle.reassembly.proofs.Places.{told, told_not}
use Rattle.reassembly.proofs.fragment.fragment_header.Goals as goal

pub headers-preserved : goal.headers-preserved
headers-preserved c =
    leads_more c.args.next_header c.args.payload.now c.headers.protocol c.headers.rest.now c.from-protocol.result
    c.behind-rest.result.now c.in-Some.end c.headers.invariant c.in-Some.ensures.ends c.from-protocol.ensures.value
    c.behind-rest.ensures

pub returns-then-rest-ge-FRAGMENT_HEADER_LEN-clause-sound :
    goal.returns-then-rest-ge-FRAGMENT_HEADER_LEN-clause-sound
returns-then-rest-ge-FRAGMENT_HEADER_LEN-clause-sound c =
    c.headers.invariant.back c.headers.rest.now
    (leads_here c.headers.protocol c.headers.rest.now (c.in_default.ensures.none refl)
    (told c.is_fragment.result (c.headers.protocol ≡ IpProtocol.Ipv6Frag) c.is_fragment.ensures c.if-is_fragment.true)
    c.if-rest-ge-FRAGMENT_HEADER_LEN.true)

pub returns-clause-complete : goal.returns-clause-complete
returns-clause-complete c none header leads =
    leads_nowhere c.headers.protocol c.headers.rest.now header (c.in_default.ensures.none refl)
    (λ f long. elim c.else-is_fragment.either [
      | inl h ↦ omega (arith, h.1, long)
      | inr h ↦
          told_not c.is_fragment.result (c.headers.protocol ≡ IpProtocol.Ipv6Frag) c.is_fragment.ensures h f
    ]) (c.headers.invariant.forward header leads)
