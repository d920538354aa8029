-- Falling paths against routes, and following without limits.
use Rattle.dns_wire.proofs.Words.{◌≡◌, ◌+◌, ◌-◌, ◌<◌, ◌≤◌, [], ◌∷◌, ◌++◌, ◌∙◌, Follows, HaveParts, IsFront, IsPart}
use Rattle.dns_wire.proofs.Words.{List, Stop, ℕ, ap, append-nil, append_assoc, arith, drop, ends, flat_map, front_of}
use Rattle.dns_wire.proofs.Words.{goes_on, inl, inr, joined, last_window, length, length-append, length-take-le, map}
use Rattle.dns_wire.proofs.Words.{pointer, refl, slice_range, subst, sym, take, take-append-drop, torn, whole, windows}
use Rattle.dns_wire.proofs.Words.{written}
use Rattle.std.proofs.lemmas.List.{take-take, drop-take, drop-append-le}
use Rattle.dns_wire.specs.DnsName.{IsFalling, open_below, here, there}
use Rattle.dns_wire.proofs.DnsNameTurns.{whole_parts}
use Rattle.dns_wire.proofs.DnsNameParts.{front_at, front_at_other, part_mark, after_label, label_front, part_one}
use Rattle.dns_wire.proofs.DnsNameParts.{after_first_label, part_longer}
use Rattle.dns_wire.proofs.DnsNameRoutes.{Breaks, Ends, Route}

-- the window from p up to above is what is left at p of the bytes open below above
window_is : (message : List ℕ) (p above : ℕ) → p < above → drop p (take above message) ≡ slice_range message p above
window_is message p above l = let e : above ≡ p + (above - p) = omega arith in
    ap (λ m. drop p (take m message)) e ∙ drop-take p (above - p) message

-- a complete path is a route to an end
pub complete_route : (targets : List ℕ) (parts : List (List (List ℕ))) (above : ℕ) (text message : List ℕ)
    → above ≤ length message → IsFalling above targets → HaveParts (text ∷ windows message above targets)
    (map goes_on targets ++ ends ∷ []) parts → Route Ends text (take above message) targets parts
complete_route [] [] above text message b f h = absurd h
complete_route [] (labels ∷ []) above text message b f h = (labels, refl, h.0)
complete_route [] (labels ∷ others ∷ more) above text message b f h = absurd h.1
complete_route (p ∷ ps) [] above text message b f h = absurd h
complete_route (p ∷ ps) (labels ∷ more) above text message b f h =
    let l : p < length (take above message) = omega (arith, length-take-le above message b, f.0) in
    let rest = complete_route ps more p (slice_range message p above) message (omega (arith, f.0)) f.1 h.1 in (
      l,
      h.0,
      subst (λ t. Route Ends t (take p (take above message)) ps more) (sym (window_is message p above f.0))
          (subst (λ r. Route Ends (slice_range message p above) r ps more)
          (sym (take-take p above message (omega (arith, f.0)))) rest),
    )

-- a route, as a path and how its last window closes
pub record Opened (C : List ℕ → List ℕ → List (List ℕ) → Type 0) (above : ℕ) (text message targets : List ℕ)
    (parts : List (List (List ℕ))) : Type 0 where
  pub firsts : List (List (List ℕ))
  pub final : List (List ℕ)
  pub reach : List ℕ
  pub is : parts ≡ firsts ++ final ∷ []
  pub falls : IsFalling above targets
  pub leads : HaveParts (text ∷ windows message above targets) (map goes_on targets) firsts
  pub closes : C (last_window text message above targets) reach final
  pub bytes_open : length reach ≡ open_below above targets

pub opened : (C : List ℕ → List ℕ → List (List ℕ) → Type 0) (targets : List ℕ) (parts : List (List (List ℕ)))
    (above : ℕ) (text message : List ℕ) → above ≤ length message → Route C text (take above message) targets parts
    → Opened C above text message targets parts
opened C [] parts above text message b h = record {
  firsts = [];
  final = h.0;
  reach = take above message;
  is = h.1;
  falls = tt;
  leads = tt;
  closes = h.2;
  bytes_open = length-take-le above message b;
}
opened C (p ∷ ps) [] above text message b h = absurd h
opened C (p ∷ ps) (labels ∷ more) above text message b h =
    let l : p < above = omega (arith, length-take-le above message b, h.0) in
    let r = opened C ps more p (slice_range message p above) message (omega arith)
    (subst (λ t. Route C t (take p message) ps more) (window_is message p above l)
    (subst (λ r. Route C (drop p (take above message)) r ps more) (take-take p above message (omega arith)) h.2)) in
    record {
      firsts = labels ∷ r.firsts;
      final = r.final;
      reach = r.reach;
      is = ap (λ x. labels ∷ x) r.is;
      falls = (l, r.falls);
      leads = (h.1, r.leads);
      closes = r.closes;
      bytes_open = r.bytes_open;
    }

-- what is after the first label where a text breaks
break_after : (text reach l : List ℕ) (ls : List (List ℕ)) → Breaks text reach (l ∷ ls)
    → (rest : List ℕ) × (front_of text ≡ whole l rest) × Breaks rest reach ls
break_after text reach l ls b = (
  flat_map written ls ++ b.rest,
  label_front text l (flat_map written ls ++ b.rest) b.each.0
      (b.is ∙ append_assoc (written l) (flat_map written ls) b.rest),
  record { rest = b.rest; each = b.each.1; is = refl; bad = b.bad },
)

-- a break is no whole label
break_label : (text reach bytes rest : List ℕ) → Breaks text reach [] → front_of text ≡ whole bytes rest → ⊥
break_label text reach bytes rest b e =
    let at : front_of b.rest ≡ whole bytes rest = ap front_of (sym b.is) ∙ e in
    elim b.bad [ inl t ↦ cc (sym t ∙ at) | inr t ↦ cc (sym t.1 ∙ at) ]

torn_at : (st : Stop) → torn ≡ front_at st → ⊥
torn_at ends e = cc
torn_at (goes_on p) e = cc

pointer_at_one : (st : Stop) (p : ℕ) → pointer p ≡ front_at st → st ≡ goes_on p
pointer_at_one ends p e = cc
pointer_at_one (goes_on q) p e = let k : q ≡ p = cc in ap goes_on k

-- where a text breaks it has no part, but one that goes on out of the open bytes
pub break_part : (front labels : List (List ℕ)) (text reach : List ℕ) (st : Stop) → Breaks text reach front
    → IsPart text labels st → (p : ℕ) × (st ≡ goes_on p) × (length reach ≤ p)
break_part [] [] text reach st b h =
    let at : front_of b.rest ≡ front_at st = ap front_of (sym b.is) ∙ part_mark text st h in
    elim b.bad [
      | inl t ↦ absurd (torn_at st (sym t ∙ at))
      | inr t ↦ (t.0, pointer_at_one st t.0 (sym t.1 ∙ at), t.2)
    ]
break_part [] (l ∷ ls) text reach st b h =
    let a = after_label text l ls st h in
    absurd (break_label text reach l a.rest b (label_front text l a.rest a.one a.is))
break_part (f ∷ fs) [] text reach st b h =
    let a = break_after text reach f fs b in
    absurd (front_at_other st f a.0 (sym (part_mark text st h) ∙ a.1))
break_part (f ∷ fs) (l ∷ ls) text reach st b h =
    let a = break_after text reach f fs b in
    let k = after_label text l ls st h in
    let e = whole_parts _ _ _ _ (sym a.1 ∙ label_front text l k.rest k.one k.is) in
    break_part fs ls k.rest reach st (subst (λ r. Breaks r reach fs) e.1 a.2) k.part

-- the labels before a break are the longest list of whole labels
pub break_longest : (front others : List (List ℕ)) (text reach : List ℕ) → Breaks text reach front → IsFront text others
    → length others ≤ length front
break_longest front [] text reach b h = omega arith
break_longest [] (l ∷ ls) text reach b h =
    let a = after_first_label text l ls h in
    absurd (break_label text reach l a.0 b (label_front text l a.0 a.1 a.2))
break_longest (f ∷ fs) (l ∷ ls) text reach b h =
    let a = break_after text reach f fs b in
    let k = after_first_label text l ls h in
    let e = whole_parts _ _ _ _ (sym a.1 ∙ label_front text l k.0 k.1 k.2) in
    let more = break_longest fs ls k.0 reach (subst (λ r. Breaks r reach fs) e.1 a.2) k.3 in
    omega arith

-- where a text closes so, it has no part that goes on at an open byte
abbrev pub Stays : (List ℕ → List ℕ → List (List ℕ) → Type 0) → Type 0
Stays C = (text reach : List ℕ) (final labels : List (List ℕ)) (q : ℕ) → C text reach final
    → IsPart text labels (goes_on q) → q < length reach → ⊥

pub break_stays : Stays Breaks
break_stays text reach final labels q c h l =
    let k = break_part final labels text reach (goes_on q) c h in
    let e : q ≡ k.0 = cc in
    absurd (omega (arith, k.2, l, e))

pub end_stays : Stays Ends
end_stays text reach final labels q c h l = let one = part_one labels final text (goes_on q) ends h c in cc

-- no falling path is longer than a route to such a close
pub route_longest : (C : List ℕ → List ℕ → List (List ℕ) → Type 0) → Stays C → (others targets : List ℕ)
    (other_parts parts : List (List (List ℕ))) (above : ℕ) (text message : List ℕ) → above ≤ length message
    → Route C text (take above message) targets parts → IsFalling above others
    → HaveParts (text ∷ windows message above others) (map goes_on others) other_parts
    → length others ≤ length targets
route_longest C stays [] targets other_parts parts above text message b r f h = omega arith
route_longest C stays (q ∷ qs) targets [] parts above text message b r f h = absurd h
route_longest C stays (q ∷ qs) [] (labels ∷ more) parts above text message b r f h =
    absurd (stays text (take above message) r.0 labels q r.2 h.0 (omega (arith, length-take-le above message b, f.0)))
route_longest C stays (q ∷ qs) (p ∷ ps) (labels ∷ more) [] above text message b r f h = absurd r
route_longest C stays (q ∷ qs) (p ∷ ps) (labels ∷ more) (first ∷ rest) above text message b r f h =
    let one = part_one labels first text (goes_on q) (goes_on p) h.0 r.1 in
    let e : p ≡ q = cc in
    let at : Route C (slice_range message q above) (take q message) ps rest =
    subst (λ t. Route C t (take q message) ps rest) (window_is message q above f.0)
    (subst (λ r. Route C (drop q (take above message)) r ps rest) (take-take q above message (omega (arith, f.0)))
    (subst (λ n. Route C (drop n (take above message)) (take n (take above message)) ps rest) e r.2)) in
    let k = route_longest C stays qs ps more rest q (slice_range message q above) message (omega (arith, f.0)) at
    f.1 h.1 in
    omega arith

-- a route to an end is no route to a break
pub no_break : (targets others : List ℕ) (parts other_parts : List (List (List ℕ))) (text reach : List ℕ)
    → Route Ends text reach targets parts → Route Breaks text reach others other_parts → ⊥
no_break [] [] parts other_parts text reach r b = let k = break_part b.0 r.0 text reach ends b.2 r.2 in cc
no_break [] (q ∷ qs) parts [] text reach r b = absurd b
no_break [] (q ∷ qs) parts (o ∷ os) text reach r b = let k = part_one r.0 o text ends (goes_on q) r.2 b.1 in cc
no_break (p ∷ ps) others [] other_parts text reach r b = absurd r
no_break (p ∷ ps) [] (labels ∷ more) other_parts text reach r b =
    let k = break_part b.0 labels text reach (goes_on p) b.2 r.1 in
    let e : p ≡ k.0 = cc in
    absurd (omega (arith, k.2, r.0, e))
no_break (p ∷ ps) (q ∷ qs) (labels ∷ more) [] text reach r b = absurd b
no_break (p ∷ ps) (q ∷ qs) (labels ∷ more) (o ∷ os) text reach r b =
    let one = part_one labels o text (goes_on p) (goes_on q) r.1 b.1 in
    let e : q ≡ p = cc in
    no_break ps qs more os (drop p reach) (take p reach) r.2
    (subst (λ n. Route Breaks (drop n reach) (take n reach) qs os) e b.2)

-- following finds what a route to an end has
pub route_follows : (targets : List ℕ) (parts : List (List (List ℕ))) (text after reach closed message : List ℕ)
    → message ≡ reach ++ closed → Route Ends text reach targets parts → Follows message (text ++ after) (joined parts)
route_follows [] parts text after reach closed message e r =
    rw r.1 (here
    (subst (λ ls. IsPart (text ++ after) ls ends) (sym (append-nil r.0)) (part_longer text after r.0 ends r.2)))
route_follows (p ∷ ps) [] text after reach closed message e r = absurd r
route_follows (p ∷ ps) (labels ∷ more) text after reach closed message e r =
    let l : p < length message = omega (arith, ap length e, length-append reach closed, r.0) in
    let d : drop p reach ++ closed ≡ drop p message =
    sym (ap (λ m. drop p m) e ∙ drop-append-le p reach closed (omega (arith, r.0))) in
    let m : message ≡ take p reach ++ (drop p reach ++ closed) =
    e ∙ (ap (λ t. t ++ closed) (sym (take-append-drop p reach)) ∙ append_assoc (take p reach) (drop p reach) closed)
    in
    let rest = route_follows ps more (drop p reach) closed (take p reach) (drop p reach ++ closed) message m r.2 in
    there labels (joined more) p (part_longer text after labels (goes_on p) r.1) l
    (subst (λ t. Follows message t (joined more)) d rest) refl

-- following finds one list of labels
pub follows_one : (message text : List ℕ) (labels others : List (List ℕ)) → Follows message text labels
    → Follows message text others → others ≡ labels
follows_one message text labels others (here h) (here k) = sym (part_one labels others text ends ends h k).0
follows_one message text labels others (here h) (there first more place k l f e) = let one =
    part_one labels first text ends (goes_on place) h k in cc
follows_one message text labels others (there first more place k l f e) (here h) = let one =
    part_one others first text ends (goes_on place) h k in cc
follows_one message text labels others (there first more place k l f e) (there first' more' place' k' l' f' e') =
    let one = part_one first first' text (goes_on place) (goes_on place') k k' in
    let same : place' ≡ place = cc in
    let rest = follows_one message (drop place message) more more' f
    (subst (λ n. Follows message (drop n message) more') same f') in
    cc
