-- Why a name breaks.
use Rattle.dns_wire.proofs.Words.{◌≡◌, ◌+◌, ◌<◌, ◌≤◌, ◌⊎◌, [], ◌∷◌, ◌++◌, ◌∙◌, AllByRecursion, IsLabel, IsPart, IsSplit}
use Rattle.dns_wire.proofs.Words.{List, NameRefusal, Stop, ℕ, ap, append_assoc, arith, drop, ends, eqb, false, flat_map}
use Rattle.dns_wire.proofs.Words.{front_of, goes_on, inl, inr, joined, le-ltb, length, lt-ltb, ltb, ne_eqb, pointer}
use Rattle.dns_wire.proofs.Words.{refl, replicate, stop, subst, sym, take, torn, true, whole, written}
use Rattle.std.proofs.lemmas.List.{length-replicate}
use Rattle.dns_wire.specs.DnsRefusal.{IsTorn, PartBreaks, BreaksHere, NameBreaks, HasName}
use Rattle.dns_wire.proofs.DnsNameTurns.{Whole-front, Points-front, stop-front}
use Rattle.dns_wire.proofs.DnsNameParts.{mark_front}
use Rattle.dns_wire.proofs.DnsNameRoutes.{Breaks, Ends, Route, Some_route, add_label, ends_more, pointer_part}
use Rattle.dns_wire.proofs.DnsNamePaths.{complete_route, opened, break_part, break_longest, break_stays, route_longest}
use Rattle.dns_wire.proofs.DnsNamePaths.{no_break}
use Rattle.dns_wire.proofs.DnsNameTheorem.{whole_open, open_whole, route_complete}
use Rattle.dns_wire.proofs.DnsSplit.{split_part}

-- ---- nothing whole begins where a reason says so

pub torn-front : (bytes : List ℕ) (reason : NameRefusal) → IsTorn bytes reason → front_of bytes ≡ torn
torn-front bytes NameRefusal.NoEnd h = rw h refl
torn-front bytes NameRefusal.LabelCut (len, behind, is, some, few, less) =
    let e0 : eqb len 0 ≡ false = ne_eqb _ _ (λ e. omega arith) in
    let e1 : ltb len 64 ≡ true = lt-ltb _ _ (omega arith) in
    let e2 : ltb (length behind) len ≡ true = lt-ltb _ _ less in
    rw is (rw (e0, e1, e2) refl)
torn-front bytes (NameRefusal.LabelType n) (behind, is, high, low) =
    let e0 : eqb n 0 ≡ false = ne_eqb _ _ (λ e. omega arith) in
    let e1 : ltb n 64 ≡ false = le-ltb _ _ high in
    let e2 : ltb n 192 ≡ true = lt-ltb _ _ (omega arith) in
    rw is (rw (e0, e1, e2) refl)
torn-front bytes NameRefusal.PointerCut (first, is, high) =
    let e0 : eqb first 0 ≡ false = ne_eqb _ _ (λ e. omega arith) in
    let e1 : ltb first 64 ≡ false = le-ltb _ _ (omega arith) in
    let e2 : ltb first 192 ≡ false = le-ltb _ _ high in
    rw is (rw (e0, e1, e2) refl)
torn-front bytes (NameRefusal.Pointer place) h = absurd h

-- ---- one part

-- a text that breaks so begins with no part
pub no_split : (text : List ℕ) (reason : NameRefusal) → PartBreaks text reason → (name after : List ℕ)
    → IsSplit text name after → ⊥
no_split text reason (labels, front, here) name after s = by s.name_is.stop (split_part text name after s)
  where
    breaks : (reach : List ℕ) → Breaks text reach labels
    breaks reach = record {
      rest = front.rest;
      each = front.each;
      is = front.whole;
      bad = inl (torn-front front.rest reason here);
    }

    by : (st : Stop) → IsPart text s.name_is.labels st → ⊥
    by ends part = let k = break_part labels s.name_is.labels text [] ends (breaks []) part in cc
    by (goes_on p) part =
        let reach = replicate (p + 1) p in
        break_stays text reach labels s.name_is.labels p (breaks reach) part (omega (arith, length-replicate (p + 1) p))

-- ---- a whole name

-- after whole labels the name breaks, for this reason
pub record BreaksFor (reason : NameRefusal) (text reach : List ℕ) (labels : List (List ℕ)) : Type 0 where
  pub rest : List ℕ
  pub each : AllByRecursion IsLabel labels
  pub is : text ≡ flat_map written labels ++ rest
  pub here : BreaksHere (length reach) rest reason

here_torn : (open_bytes : ℕ) (bytes : List ℕ) (reason : NameRefusal) → IsTorn bytes reason
    → BreaksHere open_bytes bytes reason
here_torn open_bytes bytes NameRefusal.NoEnd h = h
here_torn open_bytes bytes NameRefusal.LabelCut h = h
here_torn open_bytes bytes (NameRefusal.LabelType n) h = h
here_torn open_bytes bytes NameRefusal.PointerCut h = h
here_torn open_bytes bytes (NameRefusal.Pointer place) h = absurd h

here_bad : (open_bytes : ℕ) (bytes : List ℕ) (reason : NameRefusal) → BreaksHere open_bytes bytes reason
    → (front_of bytes ≡ torn) ⊎ ((p : ℕ) × (front_of bytes ≡ pointer p) × (open_bytes ≤ p))
here_bad open_bytes bytes NameRefusal.NoEnd h = inl (torn-front bytes NameRefusal.NoEnd h)
here_bad open_bytes bytes NameRefusal.LabelCut h = inl (torn-front bytes NameRefusal.LabelCut h)
here_bad open_bytes bytes (NameRefusal.LabelType n) h = inl (torn-front bytes (NameRefusal.LabelType n) h)
here_bad open_bytes bytes NameRefusal.PointerCut h = inl (torn-front bytes NameRefusal.PointerCut h)
here_bad open_bytes bytes (NameRefusal.Pointer place) (mark, behind, is, stops, far) =
    inr (place, ap front_of is ∙ mark_front (goes_on place) mark behind stops, far)

any_reason : (reason : NameRefusal) (text reach : List ℕ) (labels : List (List ℕ)) → BreaksFor reason text reach labels
    → Breaks text reach labels
any_reason reason text reach labels h = record {
  rest = h.rest;
  each = h.each;
  is = h.is;
  bad = here_bad (length reach) h.rest reason h.here;
}

any_route : (reason : NameRefusal) (targets : List ℕ) (parts : List (List (List ℕ))) (text reach : List ℕ)
    → Route (BreaksFor reason) text reach targets parts → Route Breaks text reach targets parts
any_route reason [] parts text reach h = (h.0, h.1, any_reason reason text reach h.0 h.2)
any_route reason (p ∷ ps) [] text reach h = absurd h
any_route reason (p ∷ ps) (l ∷ ls) text reach h =
    (h.0, h.1, any_route reason ps ls (drop p reach) (take p reach) h.2)

-- the steps of the walk, backwards
pub breaks_label : (reason : NameRefusal) (text bytes rest reach : List ℕ) → whole bytes rest ≡ front_of text
    → Some_route (BreaksFor reason) rest reach → Some_route (BreaksFor reason) text reach
breaks_label reason text bytes rest reach e s =
    let w = Whole-front text bytes rest (sym e) in
    add_label (BreaksFor reason) text bytes rest reach w (λ labels h. record {
      rest = h.rest;
      each = ((w.some, w.few), h.each);
      is = w.is ∙
          (ap (λ t. length bytes ∷ (bytes ++ t)) h.is
          ∙ sym (append_assoc (written bytes) (flat_map written labels) h.rest));
      here = h.here;
    }) s.0 s.1 s.2

pub ends_label : (text bytes rest reach : List ℕ) → whole bytes rest ≡ front_of text → Some_route Ends rest reach
    → Some_route Ends text reach
ends_label text bytes rest reach e s =
    let w = Whole-front text bytes rest (sym e) in
    add_label Ends text bytes rest reach w (ends_more text bytes rest reach w) s.0 s.1 s.2

pub route_pointer : (C : List ℕ → List ℕ → List (List ℕ) → Type 0) (text reach : List ℕ) (p : ℕ)
    → pointer p ≡ front_of text → p < length reach → Some_route C (drop p reach) (take p reach)
    → Some_route C text reach
route_pointer C text reach p e inside s =
    (p ∷ s.0, [] ∷ s.1, (inside, pointer_part text p (Points-front text p (sym e)), s.2))

pub ends_here : (text reach : List ℕ) → stop ≡ front_of text → Some_route Ends text reach
ends_here text reach e =
    let z = stop-front text (sym e) in
    ([], [] ∷ [], ([], refl, record { mark = 0 ∷ []; rest = z.0; each = tt; stops = refl; whole = z.1 }))

breaks_at : (text reach : List ℕ) (reason : NameRefusal) → BreaksHere (length reach) text reason
    → Some_route (BreaksFor reason) text reach
breaks_at text reach reason h = ([], [] ∷ [], ([], refl, record { rest = text; each = tt; is = refl; here = h }))

pub breaks_torn : (text reach : List ℕ) (reason : NameRefusal) → IsTorn text reason
    → Some_route (BreaksFor reason) text reach
breaks_torn text reach reason h = breaks_at text reach reason (here_torn (length reach) text reason h)

pub breaks_far : (text reach : List ℕ) (p : ℕ) → pointer p ≡ front_of text → length reach ≤ p
    → Some_route (BreaksFor (NameRefusal.Pointer p)) text reach
breaks_far text reach p e far =
    let at = Points-front text p (sym e) in
    breaks_at text reach (NameRefusal.Pointer p)
    (at.first ∷ at.second ∷ [], at.rest, at.is, (at.first, at.second, refl, at.high, at.low), far)

-- a route to a break is a broken path, and the reason holds where it ends
pub route_breaks : (text message : List ℕ) (reason : NameRefusal) → Some_route (BreaksFor reason) text message
    → NameBreaks text message reason
route_breaks text message reason (targets, parts, r) =
    let o = opened (BreaksFor reason) targets parts (length message) text message (omega arith)
    (open_whole (BreaksFor reason) text message targets parts r) in
    let at = open_whole Breaks text message targets parts (any_route reason targets parts text message r) in
    let closes = any_reason reason _ o.reach o.final o.closes in
    record {
      targets = targets;
      parts = o.firsts;
      front = o.final;
      path = record {
        path = record { falls = o.falls; parts_lead = o.leads };
        longest = λ others other_parts path. route_longest Breaks break_stays others targets other_parts parts
            (length message) text message (omega arith) at path.falls path.parts_lead;
        no_end = λ labels h. let k = break_part o.final labels _ o.reach ends closes h in cc;
        whole_front = record { rest = o.closes.rest; each = o.closes.each; whole = o.closes.is };
        longest_front = λ others h. break_longest o.final others _ o.reach closes h;
      };
      here = subst (λ (n : ℕ). BreaksHere n o.closes.rest reason) o.bytes_open o.closes.here;
    }

pub route_names : (text message : List ℕ) → Some_route Ends text message → HasName text message
route_names text message (targets, parts, r) = (
  joined parts,
  record { targets = targets; parts = parts; path = route_complete text message targets parts r; is = refl },
)

-- a name that breaks has no labels
pub breaks_unnamed : (text message : List ℕ) (reason : NameRefusal) → Some_route (BreaksFor reason) text message
    → HasName text message → ⊥
breaks_unnamed text message reason (targets, parts, r) (labels, name) =
    let ended = whole_open Ends text message name.targets name.parts
    (complete_route name.targets name.parts (length message) text message (omega arith) name.path.falls
    name.path.parts_lead) in
    no_break name.targets targets name.parts parts text message ended
    (any_route reason targets parts text message r)
