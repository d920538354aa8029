-- A path as the open bytes shrink along it, and the answers that come along it.
use Rattle.dns_wire.proofs.Words.{◌≡◌, ◌+◌, ◌<◌, ◌≤◌, [], ◌∷◌, ◌++◌, ◌∙◌, ◌⊎◌, AllByRecursion, Coming, IsLabel, IsPart}
use Rattle.dns_wire.proofs.Words.{List, NamePart, ℕ, ahead_of, ap, append-nil, append_assoc, arith, at_end, at_fault}
use Rattle.dns_wire.proofs.Words.{cases_lt, drop, ends, flat_map, front_of, goes_on, in_window, in_windows, inl, inr}
use Rattle.dns_wire.proofs.Words.{joined, label, length, length-append, pointer, refl, stop, subst, suc, sym, take}
use Rattle.dns_wire.proofs.Words.{torn, whole, written, zero}
use Rattle.dns_wire.proofs.DnsNameTurns.{Whole, Whole-front, Whole-length, Points, Points-front, Points-length}
use Rattle.dns_wire.proofs.DnsNameTurns.{parts_length, stop-front, ahead_label, ahead_pointer, ahead_far, ahead_stop}
use Rattle.dns_wire.proofs.DnsNameTurns.{ahead_torn}
use Rattle.dns_wire.proofs.DnsNameParts.{mark_front, label_front, part_cons}

-- Whole labels are followed by nothing whole, or by a pointer out of the open bytes.
pub record Breaks (text reach : List ℕ) (labels : List (List ℕ)) : Type 0 where
  pub rest : List ℕ
  pub each : AllByRecursion IsLabel labels
  pub is : text ≡ flat_map written labels ++ rest
  pub bad : (front_of rest ≡ torn) ⊎ ((p : ℕ) × (front_of rest ≡ pointer p) × (length reach ≤ p))

abbrev pub Ends : List ℕ → List ℕ → List (List ℕ) → Type 0
Ends text reach labels = IsPart text labels ends

-- each target is in the open bytes that the one before it left, and the last window closes as C says
abbrev pub Route : (List ℕ → List ℕ → List (List ℕ) → Type 0) → List ℕ → List ℕ → List ℕ → List (List (List ℕ)) → Type 0
Route C text reach [] parts = (labels : List (List ℕ)) × (parts ≡ labels ∷ []) × C text reach labels
Route C text reach (p ∷ ps) [] = ⊥
Route C text reach (p ∷ ps) (labels ∷ more) =
    (p < length reach) × IsPart text labels (goes_on p) × Route C (drop p reach) (take p reach) ps more

-- the answers over whole labels
pub labels_ahead : (labels : List (List ℕ)) (i n : ℕ) (text rest reach : List ℕ) → AllByRecursion IsLabel labels
    → text ≡ flat_map written labels ++ rest → ahead_of (n + i) text reach ≡ in_window i n labels
    ++ ahead_of ((n + length labels) + i) rest reach
labels_ahead [] i n text rest reach each is =
    let e : n + i ≡ (n + 0) + i = omega arith in
    ap (λ t. ahead_of (n + i) t reach) is ∙ ap (λ m. ahead_of m rest reach) e
labels_ahead (l ∷ ls) i n text rest reach each is =
    let t : text ≡ length l ∷ (l ++ (flat_map written ls ++ rest)) =
    is ∙ append_assoc (written l) (flat_map written ls) rest in
    let first =
    ahead_label (n + i) text reach l (flat_map written ls ++ rest) (ahead_of (n + i) text reach)
    (sym (label_front text l (flat_map written ls ++ rest) each.0 t)) refl in
    let e : (n + i) + 1 ≡ (n + 1) + i = omega arith in
    let k : ((n + 1) + length ls) + i ≡ (n + length (l ∷ ls)) + i = omega arith in
    let more = labels_ahead ls i (n + 1) (flat_map written ls ++ rest) rest reach each.1 refl in
    first
    ∙ (ap (λ m. record { answer = label l; steps = m } ∷ ahead_of m (flat_map written ls ++ rest) reach) e
    ∙ ap (λ cs. record { answer = label l; steps = (n + 1) + i } ∷ cs)
    (more ∙ ap (λ m. in_window i (n + 1) ls ++ ahead_of m rest reach) k))

-- the answers over a part that goes on
pub part_ahead : (labels : List (List ℕ)) (i n : ℕ) (text reach : List ℕ) (p : ℕ) → IsPart text labels (goes_on p)
    → p < length reach → ahead_of (n + i) text reach ≡ in_window i n labels
    ++ ahead_of (((n + length labels) + i) + 1) (drop p reach) (take p reach)
part_ahead labels i n text reach p h l =
    labels_ahead labels i n text (h.mark ++ h.rest) reach h.each h.whole
    ∙ ap (λ cs. in_window i n labels ++ cs)
    (sym (ahead_pointer ((n + length labels) + i) (h.mark ++ h.rest) reach p _
    (sym (mark_front (goes_on p) h.mark h.rest h.stops)) l refl))

pub ends_ahead : (i n : ℕ) (text reach : List ℕ) (labels : List (List ℕ)) → Ends text reach labels
    → ahead_of (n + i) text reach ≡ in_window i n labels ++ at_end ((n + length labels) + i)
ends_ahead i n text reach labels h =
    labels_ahead labels i n text (h.mark ++ h.rest) reach h.each h.whole
    ∙ ap (λ cs. in_window i n labels ++ cs)
    (ahead_stop ((n + length labels) + i) (h.mark ++ h.rest) reach _ (sym (mark_front ends h.mark h.rest h.stops)) refl)

pub breaks_ahead : (i n : ℕ) (text reach : List ℕ) (labels : List (List ℕ)) → Breaks text reach labels
    → ahead_of (n + i) text reach ≡ in_window i n labels ++ at_fault ((n + length labels) + i)
breaks_ahead i n text reach labels h =
    labels_ahead labels i n text h.rest reach h.each h.is
    ∙ ap (λ cs. in_window i n labels ++ cs) (elim h.bad [
      | inl b ↦ ahead_torn ((n + length labels) + i) h.rest reach _ (sym b) refl
      | inr b ↦ ahead_far ((n + length labels) + i) h.rest reach b.0 _ (sym b.1) b.2 refl
    ])

-- the answers along a route
pub route_ahead : (C : List ℕ → List ℕ → List (List ℕ) → Type 0) (closing : ℕ → List Coming)
    → ((i n : ℕ) (text reach : List ℕ) (labels : List (List ℕ)) → C text reach labels
    → ahead_of (n + i) text reach ≡ in_window i n labels ++ closing ((n + length labels) + i))
    → (targets : List ℕ) (parts : List (List (List ℕ))) (i n : ℕ) (text reach : List ℕ)
    → Route C text reach targets parts → ahead_of (n + i) text reach ≡ in_windows i n parts
    ++ closing (((n + length (joined parts)) + i) + length targets)
route_ahead C closing close [] parts i n text reach h =
    let e : (n + length h.0) + i ≡ ((n + length (h.0 ++ [])) + i) + 0 = rw (append-nil h.0) (omega arith) in
    rw h.1 (close i n text reach h.0 h.2
    ∙ (ap (λ m. in_window i n h.0 ++ closing m) e ∙ ap (λ cs. cs ++ closing (((n + length (h.0 ++ [])) + i) + 0))
    (sym (append-nil (in_window i n h.0)))))
route_ahead C closing close (p ∷ ps) [] i n text reach h = absurd h
route_ahead C closing close (p ∷ ps) (labels ∷ more) i n text reach h =
    let e : ((n + length labels) + i) + 1 ≡ (n + length labels) + (i + 1) = omega arith in
    let k : (((n + length labels) + length (joined more)) + (i + 1)) + length ps
    ≡ ((n + length (joined (labels ∷ more))) + i) + length (p ∷ ps) =
    omega (arith, length-append labels (joined more)) in
    part_ahead labels i n text reach p h.1 h.0
    ∙ (ap (λ m. in_window i n labels ++ ahead_of m (drop p reach) (take p reach)) e
    ∙ (ap (λ cs. in_window i n labels ++ cs)
    (route_ahead C closing close ps more (i + 1) (n + length labels) (drop p reach) (take p reach) h.2
    ∙ ap (λ m. in_windows (i + 1) (n + length labels) more ++ closing m) k)
    ∙ sym (append_assoc (in_window i n labels) (in_windows (i + 1) (n + length labels) more)
    (closing (((n + length (joined (labels ∷ more))) + i) + length (p ∷ ps))))))

-- each text and each open bytes have a route, to an end or to a break
abbrev pub Some_route : (List ℕ → List ℕ → List (List ℕ) → Type 0) → List ℕ → List ℕ → Type 0
Some_route C text reach = (targets : List ℕ) × (parts : List (List (List ℕ))) × Route C text reach targets parts

pub add_label : (C : List ℕ → List ℕ → List (List ℕ) → Type 0) (text bytes rest reach : List ℕ) → Whole text bytes rest
    → ((labels : List (List ℕ)) → C rest reach labels → C text reach (bytes ∷ labels))
    → (targets : List ℕ) (parts : List (List (List ℕ))) → Route C rest reach targets parts → Some_route C text reach
add_label C text bytes rest reach w more [] parts h = ([], (bytes ∷ h.0) ∷ [], (bytes ∷ h.0, refl, more h.0 h.2))
add_label C text bytes rest reach w more (p ∷ ps) [] h = absurd h
add_label C text bytes rest reach w more (p ∷ ps) (labels ∷ others) h = (
  p ∷ ps,
  (bytes ∷ labels) ∷ others,
  (
    h.0,
    subst (λ t. IsPart t (bytes ∷ labels) (goes_on p)) (sym w.is)
        (part_cons bytes rest labels (goes_on p) (w.some, w.few) h.1),
    h.2,
  ),
)

pub ends_more : (text bytes rest reach : List ℕ) → Whole text bytes rest → (labels : List (List ℕ))
    → Ends rest reach labels → Ends text reach (bytes ∷ labels)
ends_more text bytes rest reach w labels h =
    subst (λ t. IsPart t (bytes ∷ labels) ends) (sym w.is) (part_cons bytes rest labels ends (w.some, w.few) h)

breaks_more : (text bytes rest reach : List ℕ) → Whole text bytes rest → (labels : List (List ℕ))
    → Breaks rest reach labels → Breaks text reach (bytes ∷ labels)
breaks_more text bytes rest reach w labels h = record {
  rest = h.rest;
  each = ((w.some, w.few), h.each);
  is = w.is ∙
      (ap (λ t. length bytes ∷ (bytes ++ t)) h.is
      ∙ sym (append_assoc (written bytes) (flat_map written labels) h.rest));
  bad = h.bad;
}

abbrev pub Found : List ℕ → List ℕ → Type 0
Found text reach = Some_route Ends text reach ⊎ Some_route Breaks text reach

break_here : (text reach : List ℕ)
    → ((front_of text ≡ torn) ⊎ ((p : ℕ) × (front_of text ≡ pointer p) × (length reach ≤ p))) → Found text reach
break_here text reach b = inr ([], [] ∷ [], ([], refl, record { rest = text; each = tt; is = refl; bad = b }))

pub pointer_part : (text : List ℕ) (p : ℕ) → Points text p → IsPart text [] (goes_on p)
pointer_part text p h = record {
  mark = h.first ∷ h.second ∷ [];
  rest = h.rest;
  each = tt;
  stops = (h.first, h.second, refl, h.high, h.low);
  whole = h.is;
}

found_by : (f : NamePart) (text reach : List ℕ) → front_of text ≡ f
    → ((t r : List ℕ) → length t + length r + 2 ≤ length text + length reach → Found t r) → Found text reach
found_by (whole b r) text reach e go =
    let w = Whole-front text b r e in
    elim (go r reach (omega (arith, Whole-length text b r w, w.some))) [
      | inl h ↦ inl (add_label Ends text b r reach w (ends_more text b r reach w) h.0 h.1 h.2)
      | inr h ↦ inr (add_label Breaks text b r reach w (breaks_more text b r reach w) h.0 h.1 h.2)
    ]
found_by (pointer p) text reach e go =
    let at = Points-front text p e in
    elim (cases_lt p (length reach)) [
      | inl l ↦ elim
          (go (drop p reach) (take p reach) (omega (arith, parts_length p reach l, Points-length text p at))) [
            | inl h ↦ inl (p ∷ h.0, [] ∷ h.1, (l, pointer_part text p at, h.2))
            | inr h ↦ inr (p ∷ h.0, [] ∷ h.1, (l, pointer_part text p at, h.2))
          ]
      | inr l ↦ break_here text reach (inr (p, e, l))
    ]
found_by stop text reach e go =
    let z = stop-front text e in
    inl ([], [] ∷ [], ([], refl, record { mark = 0 ∷ []; rest = z.0; each = tt; stops = refl; whole = z.1 }))
found_by torn text reach e go = break_here text reach (inl e)

pub found : (f : ℕ) (text reach : List ℕ) → length text + length reach ≤ f → Found text reach
found zero text reach h = found_by (front_of text) text reach refl (λ t r l. absurd (omega arith))
found (suc f) text reach h = found_by (front_of text) text reach refl (λ t r l. found f t r (omega arith))
