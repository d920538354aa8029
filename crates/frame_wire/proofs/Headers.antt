-- Headers that extend IPv6 follow one another.
use Rattle.frame_wire.proofs.Words.{◌≡◌, ◌∙◌, ◌↔◌, Bool, IpProtocol, IsTrue, List, Option, Passes, ℕ, drop, inl, inr}
use Rattle.frame_wire.proofs.Words.{refl, slice_index, subst, sym}
use Rattle.wirebase.specs.Ip.{protocol_of}
use Rattle.frame_wire.specs.DatagramHeaders.{IsExtension, HasExtension, EndsAt, options_of, Routes, LeadsToTorn}
use Rattle.frame_wire.specs.private.Parts.{IsPassed}
use Rattle.frame_wire.specs.DatagramHeaders.{HasFragment, extension, atomic, here, past, this, beyond}

-- headers that are passed from here on are passed from the first on
pub record SoFar (begin : IpProtocol) (all start : List ℕ) (p : IpProtocol) (rest destination : List ℕ) : Type 0 where
  pub passes : (q : IpProtocol) (payload final : List ℕ) → Passes p rest destination q payload final
      → Passes begin all start q payload final

pub so_far-init : (p : IpProtocol) (all start : List ℕ) → SoFar p all start p all start
so_far-init p all start = record { passes = λ q payload final h. h }

pub so_far-more : (begin : IpProtocol) (all start : List ℕ) (p : IpProtocol) (rest destination : List ℕ)
    (q : IpProtocol) (behind next : List ℕ) (end : ℕ) → SoFar begin all start p rest destination
    → EndsAt p rest end → Routes p rest destination next → q ≡ protocol_of (slice_index rest 0)
    → behind ≡ drop end rest → SoFar begin all start q behind next
so_far-more begin all start p rest destination q behind next end so ends routes e b = record {
  passes = λ u payload final h.
      so.passes u payload final (past end next ends routes
      (subst (λ l. Passes (protocol_of (slice_index rest 0)) l next u payload final) b
      (subst (λ x. Passes x behind next u payload final) e h)));
}

pub passes_at : (p p' : IpProtocol) (bytes bytes' start start' : List ℕ) (q : IpProtocol) (payload final : List ℕ)
    → p ≡ p' → bytes ≡ bytes' → start ≡ start' → Passes p bytes start q payload final
    → Passes p' bytes' start' q payload final
passes_at p p' bytes bytes' start start' q payload final e f g passes =
    subst (λ x. Passes x bytes' start' q payload final) e
    (subst (λ l. Passes p l start' q payload final) f (subst (λ l. Passes p bytes l q payload final) g passes))

-- a hop-by-hop header that is passed is whole
pub first_whole : (p : IpProtocol) (bytes start : List ℕ) (q : IpProtocol) (payload final : List ℕ)
    → Passes p bytes start q payload final → (IsPassed q payload → ⊥) → p ≡ IpProtocol.HopByHop → HasExtension bytes
first_whole p bytes start q payload final (here e f g) unpassed is = absurd (unpassed (inl (inl (e ∙ is))))
first_whole p bytes start q payload final (past end next (extension kind has e) routes more) unpassed is = has
first_whole p bytes start q payload final (past end next (atomic fragment has e) routes more) unpassed is =
    let both : IpProtocol.HopByHop ≡ IpProtocol.Ipv6Frag = sym is ∙ fragment in cc

-- the options are those of this header
pub options_at : (p p' : IpProtocol) (header header' : List ℕ) (options : Option (List ℕ)) → p ≡ p' → header ≡ header'
    → options ≡ options_of p header → options ≡ options_of p' header'
options_at p p' header header' options e f is =
    subst (λ x. options ≡ options_of x header') e (subst (λ l. options ≡ options_of p l) f is)

-- ---- fragment headers

no_extension : (p : IpProtocol) → IsExtension p → p ≡ IpProtocol.Ipv6Frag → ⊥
no_extension p (inl is) fragment = let both : IpProtocol.HopByHop ≡ IpProtocol.Ipv6Frag = sym is ∙ fragment in cc
no_extension p (inr (inl is)) fragment = let both : IpProtocol.Ipv6Route ≡ IpProtocol.Ipv6Frag = sym is ∙ fragment in cc
no_extension p (inr (inr is)) fragment = let both : IpProtocol.Ipv6Opts ≡ IpProtocol.Ipv6Frag = sym is ∙ fragment in cc

end_one : (p : IpProtocol) (bytes : List ℕ) (a b : ℕ) → EndsAt p bytes a → EndsAt p bytes b → a ≡ b
end_one p bytes a b (extension is has e) (extension too has' f) = e ∙ sym f
end_one p bytes a b (extension is has e) (atomic fragment has' f) = absurd (no_extension p is fragment)
end_one p bytes a b (atomic fragment has e) (extension is has' f) = absurd (no_extension p is fragment)
end_one p bytes a b (atomic fragment has e) (atomic too has' f) = e ∙ sym f

behind_extension : (p : IpProtocol) (bytes : List ℕ) (end : ℕ) → IsExtension p → EndsAt p bytes end
    → HasFragment p bytes → HasFragment (protocol_of (slice_index bytes 0)) (drop end bytes)
behind_extension p bytes end is ends (this fragment) = absurd (no_extension p is fragment)
behind_extension p bytes end is ends (beyond other ends' more) =
    subst (λ e. HasFragment (protocol_of (slice_index bytes 0)) (drop e bytes))
    (end_one p bytes other end ends' ends) more

-- a fragment header is ahead of here where one is ahead of the first header
pub record FragmentSoFar (begin : IpProtocol) (all : List ℕ) (p : IpProtocol) (rest : List ℕ) : Type 0 where
  pub forth : HasFragment p rest → HasFragment begin all
  pub back : HasFragment begin all → HasFragment p rest

pub fragment_so_far-more : (begin : IpProtocol) (all : List ℕ) (p : IpProtocol) (rest : List ℕ) (q : IpProtocol)
    (behind : List ℕ) (end : ℕ) → FragmentSoFar begin all p rest → IsExtension p → EndsAt p rest end
    → q ≡ protocol_of (slice_index rest 0) → behind ≡ drop end rest → FragmentSoFar begin all q behind
fragment_so_far-more begin all p rest q behind end so is ends e b = record {
  forth = λ has.
      so.forth (beyond end ends (subst (λ x. HasFragment x (drop end rest)) e
      (subst (λ l. HasFragment q l) b has)));
  back = λ has.
      subst (λ l. HasFragment q l) (sym b) (subst (λ x. HasFragment x (drop end rest)) (sym e)
      (behind_extension p rest end is ends (so.back has)));
}

torn_none : (p : IpProtocol) (bytes : List ℕ) → IsExtension p → (HasExtension bytes → ⊥) → HasFragment p bytes → ⊥
torn_none p bytes is torn (this fragment) = no_extension p is fragment
torn_none p bytes is torn (beyond end (extension too has e) more) = torn has
torn_none p bytes is torn (beyond end (atomic fragment has e) more) = no_extension p is fragment

last_one : (p : IpProtocol) (bytes : List ℕ) → (IsExtension p → ⊥) → HasFragment p bytes → p ≡ IpProtocol.Ipv6Frag
last_one p bytes other (this fragment) = fragment
last_one p bytes other (beyond end (extension is has e) more) = absurd (other is)
last_one p bytes other (beyond end (atomic fragment has e) more) = fragment

-- the last header is that of a fragment, or none is
pub fragment_last : (begin : IpProtocol) (all : List ℕ) (p : IpProtocol) (rest : List ℕ) (b : Bool)
    → FragmentSoFar begin all p rest → (IsExtension p → ⊥) → (IsTrue b ↔ (p ≡ IpProtocol.Ipv6Frag))
    → IsTrue b ↔ HasFragment begin all
fragment_last begin all p rest b so other is = (
  λ yes'. so.forth (this (is.0 yes')),
  λ has. is.1 (last_one p rest other (so.back has)),
)

-- a jumbogram whose hop-by-hop header is cut leads to no fragment header, but to a header that is cut
pub torn_unbroken : (p : IpProtocol) (bytes : List ℕ) → p ≡ IpProtocol.HopByHop → (HasExtension bytes → ⊥)
    → HasFragment p bytes → ⊥
torn_unbroken p bytes is torn has = torn_none p bytes (inl is) torn has

pub torn_leads : (p : IpProtocol) (bytes start : List ℕ) → p ≡ IpProtocol.HopByHop → (HasExtension bytes → ⊥)
    → LeadsToTorn p bytes start IpProtocol.HopByHop
torn_leads p bytes start is torn = record {
  rest = bytes;
  final = start;
  passes = here (sym is) refl refl;
  torn = inl (inl refl, torn);
}
