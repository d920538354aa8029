-- The fragments of a datagram, in the order of their offsets, each with a mark whether it came.
use Rattle.std.proofs.Common.{◌≡◌, ◌≢◌, ◌≤◌, ◌+◌, ◌⊎◌, ◌∙◌, [], ◌∷◌, List, Bool, true, false, ℕ, ap, sym, subst}
use Rattle.std.proofs.Common.{arith, inl, inr, length, refl}
use Rattle.reassembly.specs.Arrivals.{Arrival, AreOf, IsOf, TakesOut, piece_from, pieces_from}
use Rattle.reassembly.specs.Piece.{Stands, StandsToAll, TilesFrom, end_of}
use Rattle.reassembly.specs.Piece.{placed}
use Rattle.reassembly.specs.Types.{Key, Standing}
use Rattle.reassembly.proofs.Places.{placed_before, placed_behind}

pub data Marks : Type 0 where
  end : Marks
  came : Arrival → Marks → Marks
  missing : Arrival → Marks → Marks

-- all of them, those that came, and the others
abbrev pub all_of : Marks → List Arrival
all_of end = []
all_of (came a ms) = a ∷ all_of ms
all_of (missing a ms) = a ∷ all_of ms

abbrev pub here_of : Marks → List Arrival
here_of end = []
here_of (came a ms) = a ∷ here_of ms
here_of (missing a ms) = here_of ms

abbrev pub left_of : Marks → List Arrival
left_of end = []
left_of (came a ms) = left_of ms
left_of (missing a ms) = a ∷ left_of ms

-- none came yet
abbrev pub none_of : List Arrival → Marks
none_of [] = end
none_of (a ∷ rest) = missing a (none_of rest)

pub none-all : (arrivals : List Arrival) → all_of (none_of arrivals) ≡ arrivals
none-all [] = refl
none-all (a ∷ rest) = ap (λ l. a ∷ l) (none-all rest)

pub none-here : (arrivals : List Arrival) → here_of (none_of arrivals) ≡ []
none-here [] = refl
none-here (a ∷ rest) = none-here rest

pub none-left : (arrivals : List Arrival) → left_of (none_of arrivals) ≡ arrivals
none-left [] = refl
none-left (a ∷ rest) = ap (λ l. a ∷ l) (none-left rest)

pub counted : (ms : Marks) → length (here_of ms) + length (left_of ms) ≡ length (all_of ms)
counted end = refl
counted (came a ms) = omega (arith, counted ms)
counted (missing a ms) = omega (arith, counted ms)

pub all_here : (ms : Marks) → left_of ms ≡ [] → here_of ms ≡ all_of ms
all_here end e = refl
all_here (came a ms) e = ap (λ l. a ∷ l) (all_here ms e)
all_here (missing a ms) e = absurd (omega (arith, ap length e))

-- ---- one behind another

-- it begins behind the end of the other, which is not the last one
pub record Behind (a b : Arrival) : Type 0 where
  pub begins : end_of (piece_from a) ≤ b.fragment.frag_offset
  pub goes : a.fragment.more_frags ≡ true
  pub bytes : length a.fragment.payload ≢ 0

abbrev pub AllBehind : Arrival → List Arrival → Type 0
AllBehind a [] = Unit {0}
AllBehind a (b ∷ rest) = Behind a b × AllBehind a rest

abbrev pub InOrder : List Arrival → Type 0
InOrder [] = Unit {0}
InOrder (a ∷ rest) = AllBehind a rest × InOrder rest

-- what tiles from a byte on begins there or behind it
abbrev pub AllFrom : ℕ → List Arrival → Type 0
AllFrom start [] = Unit {0}
AllFrom start (b ∷ rest) = (start ≤ b.fragment.frag_offset) × AllFrom start rest

from_less : (start less : ℕ) (arrivals : List Arrival) → less ≤ start → AllFrom start arrivals → AllFrom less arrivals
from_less start less [] h all = tt
from_less start less (b ∷ rest) h all = (omega (arith, h, all.0), from_less start less rest h all.1)

tiles-from : (key : Key) (arrivals : List Arrival) (more : Bool) (start : ℕ) → AreOf key arrivals
    → TilesFrom more start (pieces_from arrivals) → AllFrom start arrivals
tiles-from key [] more start are t = tt
tiles-from key (a ∷ rest) more start are t = (
  omega (arith, t.1),
  from_less (end_of (piece_from a)) start rest (omega (arith, t.1))
      (tiles-from key rest a.fragment.more_frags (end_of (piece_from a)) are.1 t.2),
)

all_behind : (a : Arrival) (rest : List Arrival) → a.fragment.more_frags ≡ true → length a.fragment.payload ≢ 0
    → AllFrom (end_of (piece_from a)) rest → AllBehind a rest
all_behind a [] goes bytes all = tt
all_behind a (b ∷ rest) goes bytes all =
    (record { begins = all.0; goes = goes; bytes = bytes }, all_behind a rest goes bytes all.1)

pub tiles-order : (key : Key) (arrivals : List Arrival) (more : Bool) (start : ℕ) → AreOf key arrivals
    → TilesFrom more start (pieces_from arrivals) → InOrder arrivals
tiles-order key [] more start are t = tt
tiles-order key (a ∷ []) more start are t = (tt, tt)
tiles-order key (a ∷ b ∷ rest) more start are t = (
  all_behind a (b ∷ rest) t.2.0 are.0.sound.order.bytes
      (tiles-from key (b ∷ rest) a.fragment.more_frags (end_of (piece_from a)) are.1 t.2),
  tiles-order key (b ∷ rest) a.fragment.more_frags (end_of (piece_from a)) are.1 t.2,
)

-- ---- of those that are left, and of those that came

pub out_of : (key : Key) (ms : Marks) (x : Arrival) (others : List Arrival) → AreOf key (all_of ms)
    → TakesOut (left_of ms) x others → IsOf key x
out_of key end x others are out = absurd out
out_of key (came a ms) x others are out = out_of key ms x others are.1 out
out_of key (missing a ms) x others are (inl (e, o)) = subst (IsOf key) e are.0
out_of key (missing a ms) x others are (inr (more, o, out)) = out_of key ms x more are.1 out

out_behind : (a : Arrival) (ms : Marks) (x : Arrival) (others : List Arrival) → AllBehind a (all_of ms)
    → TakesOut (left_of ms) x others → Behind a x
out_behind a end x others all out = absurd out
out_behind a (came b ms) x others all out = out_behind a ms x others all.1 out
out_behind a (missing b ms) x others all (inl (e, o)) = subst (Behind a) e all.0
out_behind a (missing b ms) x others all (inr (more, o, out)) = out_behind a ms x more all.1 out

here_behind : (a : Arrival) (ms : Marks) → AllBehind a (all_of ms) → AllBehind a (here_of ms)
here_behind a end all = tt
here_behind a (came b ms) all = (all.0, here_behind a ms all.1)
here_behind a (missing b ms) all = here_behind a ms all.1

-- ---- one comes

placed_first : (x : Arrival) (arrivals : List Arrival) → AllBehind x arrivals
    → placed (piece_from x) (pieces_from arrivals) ≡ piece_from x ∷ pieces_from arrivals
placed_first x [] all = refl
placed_first x (b ∷ rest) all =
    placed_before (piece_from x) (piece_from b) (pieces_from rest) (omega (arith, all.0.begins))

pub record Comes (ms : Marks) (x : Arrival) (others : List Arrival) : Type 0 where
  pub marks : Marks
  pub all : all_of marks ≡ all_of ms
  pub left : left_of marks ≡ others
  pub here : pieces_from (here_of marks) ≡ placed (piece_from x) (pieces_from (here_of ms))

comes_behind : (a : Arrival) (ms : Marks) (x : Arrival) (others : List Arrival) → Behind a x → Comes ms x others
    → Comes (came a ms) x others
comes_behind a ms x others behind c = record {
  marks = came a c.marks;
  all = ap (λ l. a ∷ l) c.all;
  left = c.left;
  here =
      ap (λ l. piece_from a ∷ l) c.here
      ∙ sym (placed_behind (piece_from x) (piece_from a) (pieces_from (here_of ms))
      (let k = behind.begins in let b = behind.bytes in omega (arith, k, b)));
}

comes_at : (x : Arrival) (ms : Marks) → AllBehind x (all_of ms) → Comes (missing x ms) x (left_of ms)
comes_at x ms all = record {
  marks = came x ms;
  all = refl;
  left = refl;
  here = sym (placed_first x (here_of ms) (here_behind x ms all));
}

comes_later : (a : Arrival) (ms : Marks) (x : Arrival) (more : List Arrival) → Comes ms x more
    → Comes (missing a ms) x (a ∷ more)
comes_later a ms x more c = record {
  marks = missing a c.marks;
  all = ap (λ l. a ∷ l) c.all;
  left = ap (λ l. a ∷ l) c.left;
  here = c.here;
}

pub comes : (ms : Marks) (x : Arrival) (others : List Arrival) → InOrder (all_of ms)
    → TakesOut (left_of ms) x others → Comes ms x others
comes end x others order out = absurd out
comes (came a ms) x others order out =
    comes_behind a ms x others (out_behind a ms x others order.0 out) (comes ms x others order.1 out)
comes (missing a ms) x others order (inl (e, o)) =
    subst (Comes (missing a ms) x) (sym o) (subst (λ y. Comes (missing a ms) y (left_of ms)) e (comes_at a ms order.0))
comes (missing a ms) x others order (inr (more, o, out)) =
    subst (Comes (missing a ms) x) (sym o) (comes_later a ms x more (comes ms x more order.1 out))

-- ---- it is apart from those that came

behind_stands : (a x : Arrival) (s : Standing) → Behind a x ⊎ Behind x a → Stands (piece_from a) x.fragment s
    → s ≡ Standing.Apart
behind_stands a x Standing.Apart b h = refl
behind_stands a x Standing.Same (inl b) h = let k = b.begins in let y = b.bytes in absurd (omega (arith, k, y, h.1))
behind_stands a x Standing.Same (inr b) h = let k = b.begins in let y = b.bytes in absurd (omega (arith, k, y, h.1))
behind_stands a x Standing.Overlapping (inl b) h = let k = b.begins in absurd (omega (arith, k, h.1.1))
behind_stands a x Standing.Overlapping (inr b) h = let k = b.begins in absurd (omega (arith, k, h.1.0))
behind_stands a x Standing.PastEnd (inl b) h =
    let k = b.begins in
    elim h.1 [ inl l ↦ absurd (let g = b.goes in let e = l.0 in cc) | inr l ↦ absurd (omega (arith, k, l.1)) ]
behind_stands a x Standing.PastEnd (inr b) h =
    let k = b.begins in
    elim h.1 [ inl l ↦ absurd (omega (arith, k, l.1)) | inr l ↦ absurd (let g = b.goes in let e = l.0 in cc) ]

behind_stand : (x : Arrival) (arrivals : List Arrival) (s : Standing) → AllBehind x arrivals
    → StandsToAll (pieces_from arrivals) x.fragment s → s ≡ Standing.Apart
behind_stand x [] s all h = h
behind_stand x (b ∷ rest) s all (inl (h, other)) = behind_stands b x s (inr all.0) h
behind_stand x (b ∷ rest) s all (inr (h, more)) = behind_stand x rest s all.1 more

pub stands_apart : (ms : Marks) (x : Arrival) (others : List Arrival) (s : Standing) → InOrder (all_of ms)
    → TakesOut (left_of ms) x others → StandsToAll (pieces_from (here_of ms)) x.fragment s → s ≡ Standing.Apart
stands_apart end x others s order out h = absurd out
stands_apart (came a ms) x others s order out (inl (h, other)) =
    behind_stands a x s (inl (out_behind a ms x others order.0 out)) h
stands_apart (came a ms) x others s order out (inr (h, more)) = stands_apart ms x others s order.1 out more
stands_apart (missing a ms) x others s order (inl (e, o)) h =
    subst (λ y. StandsToAll (pieces_from (here_of ms)) y.fragment s → s ≡ Standing.Apart) e
    (behind_stand a (here_of ms) s (here_behind a ms order.0)) h
stands_apart (missing a ms) x others s order (inr (more, o, out)) h = stands_apart ms x more s order.1 out h

-- ---- where those that came tile the datagram, none is missing

behind_tile : (a : Arrival) (arrivals : List Arrival) (start : ℕ) → AllBehind a arrivals
    → a.fragment.frag_offset ≡ start → TilesFrom true start (pieces_from arrivals) → ⊥
behind_tile a [] start all at t = let e : true ≡ false = t in cc
behind_tile a (b ∷ rest) start all at t =
    let k = all.0.begins in let y = all.0.bytes in omega (arith, k, y, at, t.1)

pub tiles-all : (ms : Marks) (more : Bool) (start : ℕ) → InOrder (all_of ms)
    → TilesFrom more start (pieces_from (all_of ms)) → TilesFrom more start (pieces_from (here_of ms))
    → left_of ms ≡ []
tiles-all end more start order t u = refl
tiles-all (came a ms) more start order t u =
    tiles-all ms a.fragment.more_frags (end_of (piece_from a)) order.1 t.2 u.2
tiles-all (missing a ms) more start order t u =
    absurd (behind_tile a (here_of ms) start (here_behind a ms order.0) t.1
    (subst (λ m. TilesFrom m start (pieces_from (here_of ms))) t.0 u))
