-- The headers that lead to that of a fragment.
use Rattle.std.proofs.Common.{◌≡◌, ◌≢◌, ◌+◌, ◌≤◌, ◌∙◌, List, ℕ, ap, arith, drop, length, slice_index, subst, sym}
use Rattle.std.proofs.Common.{inl, inr, refl}
use Rattle.wirebase.specs.Bytes.{part}
use Rattle.wirebase.specs.Ip.{protocol_of}
use Rattle.wirebase.specs.Ipv6 as ipv6
use Rattle.frame_wire.specs.DatagramHeaders.{EndsAt, HasAtomic, HasExtension, HasFragment, IsExtension, IsTornHeader}
use Rattle.frame_wire.specs.DatagramHeaders.{Passes}
use Rattle.frame_wire.specs.DatagramHeaders as headers
use Rattle.frame_wire.specs.Datagram.{DatagramValue, EndsAt6, IsCut6, IsDatagram6, IsJumbogram, Refuses6}
use Rattle.frame_wire.specs.Datagram.{behind6, next_header_in}
use Rattle.frame_wire.specs.Datagram as datagram
use Rattle.frame_wire.specs.declared.datagram.Refusal.{Refusal as HeaderRefusal}
use Rattle.reassembly.specs.Fragment.{FragmentValue, IsFragment6, LeadsToFragment, here, past}
use Rattle.reassembly.specs.Types.{Head, IpProtocol}

-- a fragment header is none of those that extend IPv6
pub no_extension : (p : IpProtocol) → p ≡ IpProtocol.Ipv6Frag → IsExtension p → ⊥
no_extension p e (inl h) = cc
no_extension p e (inr (inl h)) = cc
no_extension p e (inr (inr h)) = cc

-- a header has one end
ends_one : (p : IpProtocol) (bytes : List ℕ) (end other : ℕ) → EndsAt p bytes end → EndsAt p bytes other → end ≡ other
ends_one p bytes end other (headers.extension is has e) (headers.extension is' has' e') = e ∙ sym e'
ends_one p bytes end other (headers.extension is has e) (headers.atomic f has' e') = absurd (no_extension p f is)
ends_one p bytes end other (headers.atomic f has e) (headers.extension is has' e') = absurd (no_extension p f is)
ends_one p bytes end other (headers.atomic f has e) (headers.atomic f' has' e') = e ∙ sym e'

-- what leads to a fragment leads there behind a header that is passed
leads_past : (p : IpProtocol) (bytes header : List ℕ) (end : ℕ) → EndsAt p bytes end → LeadsToFragment p bytes header
    → LeadsToFragment (protocol_of (slice_index bytes 0)) (drop end bytes) header
leads_past p bytes header end (headers.extension is has e) (here f long never h) = absurd (no_extension p f is)
leads_past p bytes header end (headers.atomic f' has e) (here f long never h) = absurd (never has)
leads_past p bytes header end ends (past other ends' rest) =
    subst (λ n. LeadsToFragment (protocol_of (slice_index bytes 0)) (drop n bytes) header)
    (ends_one p bytes other end ends' ends) rest

-- a walk over the headers
pub record LeadsLater (begin : IpProtocol) (all : List ℕ) (p : IpProtocol) (rest : List ℕ) : Type 0 where
  pub forward : (header : List ℕ) → LeadsToFragment begin all header → LeadsToFragment p rest header
  pub back : (header : List ℕ) → LeadsToFragment p rest header → LeadsToFragment begin all header

pub leads_more : (begin : IpProtocol) (all : List ℕ) (p : IpProtocol) (rest : List ℕ) (q : IpProtocol)
    (behind : List ℕ) (end : ℕ) → LeadsLater begin all p rest → EndsAt p rest end
    → q ≡ protocol_of (slice_index rest 0) → behind ≡ drop end rest → LeadsLater begin all q behind
leads_more begin all p rest q behind end so ends e b = record {
  forward = λ header h.
      subst (λ x. LeadsToFragment x behind header) (sym e)
      (subst (λ l. LeadsToFragment (protocol_of (slice_index rest 0)) l header) (sym b)
      (leads_past p rest header end ends (so.forward header h)));
  back = λ header h.
      so.back header (past end ends
      (subst (λ l. LeadsToFragment (protocol_of (slice_index rest 0)) l header) b
      (subst (λ x. LeadsToFragment x behind header) e h)));
}

-- no header is left to pass, and there is none of a fragment
pub leads_nowhere : (p : IpProtocol) (rest header : List ℕ) → ((end : ℕ) → EndsAt p rest end → ⊥)
    → (p ≡ IpProtocol.Ipv6Frag → 8 ≤ length rest → ⊥) → LeadsToFragment p rest header → ⊥
leads_nowhere p rest header none never (here f long atomic h) = never f long
leads_nowhere p rest header none never (past end ends more) = none end ends

-- no header is left to pass, so this one is no atomic fragment's
pub leads_here : (p : IpProtocol) (rest : List ℕ) → ((end : ℕ) → EndsAt p rest end → ⊥) → p ≡ IpProtocol.Ipv6Frag
    → 8 ≤ length rest → LeadsToFragment p rest rest
leads_here p rest none f long = here f long (λ has. none 8 (headers.atomic f has refl)) refl

-- one of hop-by-hop options that is passed is whole
pub leads_whole : (p : IpProtocol) (bytes header : List ℕ) → LeadsToFragment p bytes header
    → p ≡ IpProtocol.HopByHop → HasExtension bytes
leads_whole p bytes header (here f long never h) is = absurd (no_extension p f (inl is))
leads_whole p bytes header (past end (headers.extension passed has e) more) is = has
leads_whole p bytes header (past end (headers.atomic f has e) more) is = absurd (no_extension p f (inl is))

-- ---- the headers of a datagram

-- that of a fragment that they pass to
pub passes_lead : (p : IpProtocol) (bytes destination : List ℕ) (q : IpProtocol) (rest final : List ℕ)
    → Passes p bytes destination q rest final → q ≡ IpProtocol.Ipv6Frag → 8 ≤ length rest → (HasAtomic rest → ⊥)
    → LeadsToFragment p bytes rest
passes_lead p bytes destination q rest final (headers.here e r f) is long never =
    here (sym e ∙ is) (subst (λ l. 8 ≤ length l) r long) (λ has. never (subst HasAtomic (sym r) has)) r
passes_lead p bytes destination q rest final (headers.past end next ends routes more) is long never =
    past end ends (passes_lead _ _ _ q rest final more is long never)

-- where they pass to what is no header, or to one that is torn, they lead to no fragment
pub passes_elsewhere : (p : IpProtocol) (bytes destination : List ℕ) (q : IpProtocol) (rest final header : List ℕ)
    → Passes p bytes destination q rest final → (LeadsToFragment q rest header → ⊥)
    → LeadsToFragment p bytes header → ⊥
passes_elsewhere p bytes destination q rest final header (headers.here e r f) never leads =
    never (subst (λ x. LeadsToFragment x rest header) (sym e) (subst (λ l. LeadsToFragment p l header) (sym r) leads))
passes_elsewhere p bytes destination q rest final header (headers.past end next ends routes more) never leads =
    passes_elsewhere _ _ _ q rest final header more never (leads_past p bytes header end ends leads)

pub leads_none : (q : IpProtocol) (rest header : List ℕ) → (IsExtension q → ⊥) → q ≢ IpProtocol.Ipv6Frag
    → LeadsToFragment q rest header → ⊥
leads_none q rest header passed other (here f long never h) = other f
leads_none q rest header passed other (past end (headers.extension is has e) more) = passed is
leads_none q rest header passed other (past end (headers.atomic f has e) more) = other f

pub leads_torn : (q : IpProtocol) (rest header : List ℕ) → IsTornHeader q rest → LeadsToFragment q rest header → ⊥
leads_torn q rest header (inl (is, never)) (here f long atomic h) = no_extension q f is
leads_torn q rest header (inl (is, never)) (past end (headers.extension is' has e) more) = never has
leads_torn q rest header (inl (is, never)) (past end (headers.atomic f has e) more) = no_extension q f is
leads_torn q rest header (inr (f, short)) (here f' long atomic h) = omega (arith, short, long)
leads_torn q rest header (inr (f, short)) (past end (headers.extension is has e) more) = no_extension q f is
leads_torn q rest header (inr (f, short)) (past end (headers.atomic f' has e) more) = omega (arith, short, has.whole)

-- ---- where a fragment ends

passes_has : (p : IpProtocol) (bytes destination : List ℕ) (q : IpProtocol) (rest final : List ℕ)
    → Passes p bytes destination q rest final → q ≡ IpProtocol.Ipv6Frag → HasFragment p bytes
passes_has p bytes destination q rest final (headers.here e r f) is = headers.this (sym e ∙ is)
passes_has p bytes destination q rest final (headers.past end next ends routes more) is =
    headers.beyond end ends (passes_has _ _ _ q rest final more is)

-- a jumbogram with the header of a fragment is refused as one
fragment_plain : (bytes : List ℕ) (head : Head) → Refuses6 bytes (HeaderRefusal.Fragment head)
    → IsJumbogram bytes → ⊥
fragment_plain bytes head r is =
    r.refuses.0 (is, passes_has _ _ _ _ r.refuses.1.header _ r.refuses.1.passes refl)

-- so its payload length tells where a fragment ends
end_counted : (bytes : List ℕ) (end : ℕ) → (IsJumbogram bytes → ⊥) → EndsAt6 bytes end
    → end ≡ 40 + ipv6.payload_len_in bytes
end_counted bytes end plain (datagram.counted other e) = e
end_counted bytes end plain (datagram.jumbo n is has e) = absurd (plain is)

fragment_whole : (bytes : List ℕ) (head : Head) → Refuses6 bytes (HeaderRefusal.Fragment head)
    → 40 + ipv6.payload_len_in bytes ≤ length bytes
fragment_whole bytes head r =
    subst (λ n. n ≤ length bytes) (end_counted bytes r.end (fragment_plain bytes head r) r.ends) r.total

-- what leads to the header of a fragment is what the datagram has
leads_behind : (bytes : List ℕ) (end : ℕ) (v : FragmentValue) → EndsAt6 bytes end → (f : IsFragment6 bytes v)
    → LeadsToFragment (next_header_in bytes) (behind6 bytes end) f.header
leads_behind bytes end v ends f =
    subst (λ l. LeadsToFragment (next_header_in bytes) l f.header)
    (sym (ap (λ n. part bytes 40 n) (end_counted bytes end (fragment_plain bytes f.head f.fragment) ends))) f.leads

-- ---- what is no fragment

pub datagram_no_fragment : (bytes : List ℕ) (d : DatagramValue) (v : FragmentValue) → IsDatagram6 bytes d
    → IsFragment6 bytes v → ⊥
datagram_no_fragment bytes d v is f =
    passes_elsewhere _ _ _ d.protocol d.payload _ f.header is.headed.passes
    (leads_none d.protocol d.payload f.header is.headed.passed is.headed.unfragmented)
    (leads_behind bytes is.end v is.ends f)

cut_no_fragment : (bytes : List ℕ) (v : FragmentValue) → IsCut6 bytes → IsFragment6 bytes v → ⊥
cut_no_fragment bytes v (datagram.short end ends less) f =
    let plain = fragment_plain bytes f.head f.fragment in
    let whole = fragment_whole bytes f.head f.fragment in
    let e = end_counted bytes end plain ends in omega (arith, whole, less, e)
cut_no_fragment bytes v (datagram.torn is cut) f = fragment_plain bytes f.head f.fragment is

pub refused_no_fragment : (bytes : List ℕ) (refusal : HeaderRefusal) (v : FragmentValue) → Refuses6 bytes refusal
    → ((head : Head) → refusal ≡ HeaderRefusal.Fragment head → ⊥) → IsFragment6 bytes v → ⊥
refused_no_fragment bytes HeaderRefusal.Short v r other f =
    let k = f.fragment.header.fixed in omega (arith, k, r)
refused_no_fragment bytes (HeaderRefusal.Version n) v r other f = r.2 (sym r.1 ∙ f.fragment.header.version)
refused_no_fragment bytes (HeaderRefusal.HeaderLen n) v r other f = r.refuses
refused_no_fragment bytes (HeaderRefusal.TotalLen n) v r other f = r.refuses
refused_no_fragment bytes (HeaderRefusal.Cut head) v r other f = cut_no_fragment bytes v r.1 f
refused_no_fragment bytes HeaderRefusal.Jumbogram v (inl r) other f =
    fragment_plain bytes f.head f.fragment r.jumbogram
refused_no_fragment bytes HeaderRefusal.Jumbogram v (inr r) other f =
    fragment_plain bytes f.head f.fragment r.refuses.0
refused_no_fragment bytes (HeaderRefusal.Extension p) v r other f =
    passes_elsewhere _ _ _ p r.refuses.1.rest r.refuses.1.final f.header r.refuses.1.passes
    (leads_torn p r.refuses.1.rest f.header r.refuses.1.torn) (leads_behind bytes r.end v r.ends f)
refused_no_fragment bytes (HeaderRefusal.Fragment head) v r other f = other head refl
