-- The fragments of a datagram come in any order.
use Rattle.std.proofs.Common.{◌≡◌, ◌<◌, ◌++◌, ◌∙◌, [], ◌∷◌, List, true, false, ap, sym, subst}
use Rattle.std.proofs.Common.{arith, length, refl}
use Rattle.std.proofs.lemmas.List.{append-nil, length-map}
use Rattle.reassembly.specs.Answer.{AnswerValue}
use Rattle.reassembly.specs.Answer as answer
use Rattle.reassembly.specs.Arrivals.{AnyOrder, AreAllOf, AreOf, Arrival, Come, Reorders, TakesOut, piece_from}
use Rattle.reassembly.specs.Arrivals.{pieces_from}
use Rattle.reassembly.specs.Fragment.{FragmentValue, IsMalformed, IsSound, key_of}
use Rattle.reassembly.specs.Partial.{PartialValue, TakenValue, Takes, completes, joined, keeps, kept}
use Rattle.reassembly.specs.Partial.{most_pieces, overfills, overlaps, passes_end, remembered, repeated, with_fragment}
use Rattle.reassembly.specs.Partial as partial
use Rattle.reassembly.specs.Piece.{PieceValue, StandsToAll, Tiles, placed}
use Rattle.reassembly.specs.Reassembly.{Adds, IsUnknown, answered, begins, begun, drops, joins, left_of, malformed}
use Rattle.reassembly.specs.Reassembly.{most_datagrams}
use Rattle.reassembly.specs.Types.{Key, Refusal, Standing}
use Rattle.reassembly.proofs.Marks as marks
use Rattle.reassembly.proofs.Marks.{InOrder, Marks, all_here, all_of, comes, counted, here_of, none_of, none-all}
use Rattle.reassembly.proofs.Marks.{none-here, none-left, out_of, stands_apart, tiles-all, tiles-order}

-- ---- one fragment

malformed_unsound : (f : FragmentValue) (refusal : Refusal) → IsSound f → IsMalformed f refusal → ⊥
malformed_unsound f Refusal.Empty s m = s.order.bytes m
malformed_unsound f Refusal.Unfragmented s m = s.order.part m.2 m.1
malformed_unsound f Refusal.Length s m = m.2 (s.order.eights m.1)
malformed_unsound f Refusal.TooLong s m = let k = s.within in omega (arith, k, m.1)
malformed_unsound f Refusal.Options s m = let k = s.options in omega (arith, k, m.2)
malformed_unsound f Refusal.Discarded s m = m
malformed_unsound f Refusal.Overlap s m = m
malformed_unsound f Refusal.End s m = m
malformed_unsound f Refusal.TooMany s m = m

unknown_at : (key : Key) (before behind : List PartialValue) (d : PartialValue) → d.key ≡ key
    → IsUnknown key (before ++ (d ∷ behind)) → ⊥
unknown_at key [] behind d e u = u.0 e
unknown_at key (x ∷ before) behind d e u = unknown_at key before behind d e u.1

-- the first one of a datagram
first_adds : (old new : List PartialValue) (a : Arrival) (given : AnswerValue) → IsSound a.fragment
    → IsUnknown (key_of a.fragment) old → length old < most_datagrams → Adds old a.number a.fragment given new
    → new ≡ old ++ (begun a.number a.fragment ∷ [])
first_adds old new a given s u room (malformed r m e n) = absurd (malformed_unsound a.fragment r s m)
first_adds old new a given s u room (begins s' u' room' e n) = n
first_adds old new a given s u room (drops first rest s' u' most o e n) = absurd (omega (arith, room, most))
first_adds old new a given s u room (joins before behind d changed taken s' o u' k t e n) =
    absurd (unknown_at (key_of a.fragment) before behind d k (subst (IsUnknown (key_of a.fragment)) o u))

-- one datagram with a key is the only one
pub record Split (old before behind : List PartialValue) (d e : PartialValue) : Type 0 where
  pub front : before ≡ old
  pub same : e ≡ d
  pub rest : behind ≡ []

split_one : (key : Key) (old before behind : List PartialValue) (d e : PartialValue) → IsUnknown key old
    → IsUnknown key before → d.key ≡ key → e.key ≡ key → old ++ (d ∷ []) ≡ before ++ (e ∷ behind)
    → Split old before behind d e
split_one key [] [] behind d e u v k l h = record { front = refl; same = cc; rest = cc }
split_one key [] (y ∷ before) behind d e u v k l h =
    let same : d ≡ y = cc in absurd (v.0 (subst (λ (z : PartialValue). z.key ≡ key) same k))
split_one key (x ∷ old) [] behind d e u v k l h =
    let same : e ≡ x = cc in absurd (u.0 (subst (λ (z : PartialValue). z.key ≡ key) same l))
split_one key (x ∷ old) (y ∷ before) behind d e u v k l h =
    let same : y ≡ x = cc in
    let tails : old ++ (d ∷ []) ≡ before ++ (e ∷ behind) = cc in
    let s = split_one key old before behind d e u.1 v.1 k l tails in
    record {
      front = ap (λ z. z ∷ before) same ∙ ap (λ l. x ∷ l) s.front;
      same = s.same;
      rest = s.rest;
    }

-- what a datagram makes of one that is apart from those that came
data Took (d : PartialValue) (a : Arrival) (taken : TakenValue) (new : PartialValue) : Type 0 where
  whole : Tiles (with_fragment d a.number a.fragment).pieces
      → taken ≡ partial.whole (joined (with_fragment d a.number a.fragment)) → Took d a taken new
  goes : (Tiles (with_fragment d a.number a.fragment).pieces → ⊥) → taken ≡ kept
      → new ≡ with_fragment d a.number a.fragment → Took d a taken new

took : (d new : PartialValue) (a : Arrival) (taken : TakenValue) → d.discarded ≡ false
    → ((s : Standing) → StandsToAll d.pieces a.fragment s → s ≡ Standing.Apart) → length d.pieces < most_pieces
    → Takes d a.number a.fragment taken new → Took d a taken new
took d new a taken still apart room (remembered e t n) = absurd (let k : true ≡ false = sym e ∙ still in cc)
took d new a taken still apart room (repeated e s t n) = absurd (let k = apart Standing.Same s in cc)
took d new a taken still apart room (overlaps e s t n) = absurd (let k = apart Standing.Overlapping s in cc)
took d new a taken still apart room (passes_end e s t n) = absurd (let k = apart Standing.PastEnd s in cc)
took d new a taken still apart room (overfills e s most t n) = absurd (omega (arith, room, most))
took d new a taken still apart room (keeps e s room' never t n) = goes never t n
took d new a taken still apart room (completes e s room' tiles t n) = whole tiles t

-- a further one of a datagram that began last
data Next (old : List PartialValue) (d : PartialValue) (a : Arrival) (given : AnswerValue)
    (new : List PartialValue) : Type 0 where
  ends : Tiles (with_fragment d a.number a.fragment).pieces
      → given ≡ answer.whole (joined (with_fragment d a.number a.fragment)) → new ≡ old → Next old d a given new
  more : (Tiles (with_fragment d a.number a.fragment).pieces → ⊥)
      → new ≡ old ++ (with_fragment d a.number a.fragment ∷ []) → Next old d a given new

next_takes : (old before behind new : List PartialValue) (d e changed : PartialValue) (a : Arrival)
    (taken : TakenValue) (given : AnswerValue) → Split old before behind d e → Took d a taken changed
    → given ≡ answered taken → new ≡ before ++ (left_of taken changed ++ behind) → Next old d a given new
next_takes old before behind new d e changed a taken given s (whole tiles t) g n =
    ends tiles (g ∙ ap answered t)
    (n ∙ ap (λ (k : TakenValue). before ++ (left_of k changed ++ behind)) t ∙ ap (λ l. l ++ behind) s.front
    ∙ ap (λ l. old ++ l) s.rest ∙ append-nil old)
next_takes old before behind new d e changed a taken given s (goes never t c) g n =
    more never
    (n ∙ ap (λ (k : TakenValue). before ++ (left_of k changed ++ behind)) t
    ∙ ap (λ (z : PartialValue). before ++ (z ∷ behind)) c
    ∙ ap (λ l. l ++ (with_fragment d a.number a.fragment ∷ behind)) s.front
    ∙ ap (λ l. old ++ (with_fragment d a.number a.fragment ∷ l)) s.rest)

next_adds : (old new : List PartialValue) (d : PartialValue) (a : Arrival) (given : AnswerValue) → IsSound a.fragment
    → IsUnknown (key_of a.fragment) old → d.key ≡ key_of a.fragment → d.discarded ≡ false
    → ((s : Standing) → StandsToAll d.pieces a.fragment s → s ≡ Standing.Apart) → length d.pieces < most_pieces
    → Adds (old ++ (d ∷ [])) a.number a.fragment given new → Next old d a given new
next_adds old new d a given s u k still apart room (malformed r m e n) = absurd (malformed_unsound a.fragment r s m)
next_adds old new d a given s u k still apart room (begins s' u' room' e n) =
    absurd (unknown_at (key_of a.fragment) old [] d k u')
next_adds old new d a given s u k still apart room (drops first rest s' u' most o e n) =
    absurd (unknown_at (key_of a.fragment) old [] d k u')
next_adds old new d a given s u k still apart room (joins before behind x changed taken s' o u' k' t e n) =
    let one = split_one (key_of a.fragment) old before behind d x u u' k k' o in
    next_takes old before behind new d x changed a taken given one
    (took d changed a taken still apart room
    (subst (λ (z : PartialValue). Takes z a.number a.fragment taken changed) one.same t)) e n

-- ---- all of them

abbrev of_pieces : Key → List PieceValue → PartialValue
of_pieces key ps = record { key = key; discarded = false; pieces = ps }

abbrev held : Key → Marks → PartialValue
held key ms = of_pieces key (pieces_from (here_of ms))

abbrev whole_from : Key → List Arrival → PartialValue
whole_from key arrivals = of_pieces key (pieces_from arrivals)

out_some : (x : Arrival) (others left : List Arrival) → TakesOut left x others → 0 < length left
out_some x others [] out = absurd out
out_some x others (a ∷ left) out = omega arith

-- where the last one comes, they are all
last_pieces : (key : Key) (all : List Arrival) (ms : Marks) (x : Arrival) → AreAllOf key all → all_of ms ≡ all
    → InOrder (all_of ms) → (others : List Arrival) → others ≡ [] → TakesOut (marks.left_of ms) x others
    → placed (piece_from x) (pieces_from (here_of ms)) ≡ pieces_from all
last_pieces key all ms x are e order others none out =
    let c = comes ms x others order out in
    sym c.here ∙ ap pieces_from (all_here c.marks (c.left ∙ none) ∙ c.all ∙ e)

-- where they tile the datagram, no other is left
none_left : (key : Key) (all : List Arrival) (ms : Marks) (x : Arrival) → AreAllOf key all → all_of ms ≡ all
    → InOrder (all_of ms) → (others : List Arrival) → TakesOut (marks.left_of ms) x others
    → Tiles (placed (piece_from x) (pieces_from (here_of ms))) → others ≡ []
none_left key all ms x are e order others out tiles =
    let c = comes ms x others order out in
    let same : all_of c.marks ≡ all = c.all ∙ e in
    sym c.left ∙ tiles-all c.marks true 0 (subst InOrder (sym c.all) order)
    (subst (λ l. Tiles (pieces_from l)) (sym same) are.tile) (subst Tiles (sym c.here) tiles)

room_for : (ms : Marks) (x : Arrival) (others : List Arrival) → TakesOut (marks.left_of ms) x others
    → length (here_of ms) < length (all_of ms)
room_for ms x others out =
    let some : (left : List Arrival) → TakesOut left x others → 0 < length left = out_some x others in
    omega (arith, counted ms, some (marks.left_of ms) out)

further : (key : Key) (all : List Arrival) (ms : Marks) (x : Arrival) (others : List Arrival)
    (old new : List PartialValue) (given : AnswerValue) → AreAllOf key all → all_of ms ≡ all → InOrder (all_of ms)
    → IsUnknown key old → TakesOut (marks.left_of ms) x others
    → Adds (old ++ (held key ms ∷ [])) x.number x.fragment given new → Next old (held key ms) x given new
further key all ms x others old new given are e order u out adds =
    let is = out_of key ms x others (subst (AreOf key) (sym e) are.each) out in
    let few : length (pieces_from (here_of ms)) < most_pieces =
    omega (arith, length-map (here_of ms) piece_from, room_for ms x others out, ap length e, are.few) in
    next_adds old new (held key ms) x given is.sound (subst (λ k. IsUnknown k old) (sym is.same) u) (sym is.same) refl
    (λ s h. stands_apart ms x others s order out h) few adds

rest_come : (key : Key) (all : List Arrival) (ms : Marks) (x : Arrival) (rest : List Arrival)
    (old new : List PartialValue) (given : AnswerValue) → AreAllOf key all → all_of ms ≡ all → InOrder (all_of ms)
    → IsUnknown key old → Reorders (marks.left_of ms) (x ∷ rest)
    → Come (old ++ (held key ms ∷ [])) (x ∷ rest) given new
    → (given ≡ answer.whole (joined (whole_from key all))) × (new ≡ old)
rest_come key all ms x [] old new given are e order u r come =
    elim (further key all ms x r.0 old new given are e order u r.1 come) [
      | ends tiles g n ↦ (
        g ∙ ap (λ ps. answer.whole (joined (of_pieces key ps))) (last_pieces key all ms x are e order r.0 r.2 r.1),
        n,
      )
      | more never n ↦
          absurd (never (subst Tiles (sym (last_pieces key all ms x are e order r.0 r.2 r.1)) are.tile))
    ]
rest_come key all ms x (y ∷ rest) old new given are e order u r come =
    let c = comes ms x r.0 order r.1 in
    elim (further key all ms x r.0 old come.1 come.0 are e order u r.1 come.2) [
      | ends tiles g n ↦
          absurd (subst (λ l. TakesOut l y r.2.0) (none_left key all ms x are e order r.0 r.1 tiles) r.2.1)
      | more never n ↦
          rest_come key all c.marks y rest old new given are (c.all ∙ e) (subst InOrder (sym c.all) order) u
          (subst (λ l. Reorders l (y ∷ rest)) (sym c.left) r.2)
          (subst (λ l. Come l (y ∷ rest) given new)
          (n ∙ ap (λ ps. old ++ (of_pieces key ps ∷ [])) (sym c.here)) come.3)
    ]

pub any_order : AnyOrder
any_order key all [] old new given are r u room come = absurd come
any_order key all (x ∷ []) old new given are r u room come =
    let ms = none_of all in
    let e = none-all all in
    let order = subst InOrder (sym e) (tiles-order key all true 0 are.each are.tile) in
    let out = subst (λ l. TakesOut l x r.0) (sym (none-left all)) r.1 in
    let one = ap (λ l. placed (piece_from x) (pieces_from l)) (none-here all) in
    let last = last_pieces key all ms x are e order r.0 r.2 out in
    let t : Tiles (piece_from x ∷ []) = subst Tiles (sym last ∙ one) are.tile in
    let is = out_of key ms x r.0 (subst (AreOf key) (sym e) are.each) out in
    absurd (is.sound.order.part t.2 t.1)
any_order key all (x ∷ y ∷ rest) old new given are r u room come =
    let ms = none_of all in
    let e = none-all all in
    let order = subst InOrder (sym e) (tiles-order key all true 0 are.each are.tile) in
    let out = subst (λ l. TakesOut l x r.0) (sym (none-left all)) r.1 in
    let one = ap (λ l. placed (piece_from x) (pieces_from l)) (none-here all) in
    let is = out_of key ms x r.0 (subst (AreOf key) (sym e) are.each) out in
    let c = comes ms x r.0 order out in
    let n =
    first_adds old come.1 x come.0 is.sound (subst (λ k. IsUnknown k old) (sym is.same) u) room come.2 in
    let begins_so : begun x.number x.fragment ≡ held key c.marks =
    ap (λ k. of_pieces k (piece_from x ∷ [])) is.same ∙ ap (of_pieces key) (sym (c.here ∙ one)) in
    rest_come key all c.marks y rest old new given are (c.all ∙ e) (subst InOrder (sym c.all) order) u
    (subst (λ l. Reorders l (y ∷ rest)) (sym c.left) r.2)
    (subst (λ l. Come l (y ∷ rest) given new) (n ∙ ap (λ d. old ++ (d ∷ [])) begins_so) come.3)
