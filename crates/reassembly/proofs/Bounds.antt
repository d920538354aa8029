-- What is kept stays within bounds.
use Rattle.std.proofs.Common.{◌≡◌, ◌≤◌, ◌<◌, ◌+◌, ◌*◌, ◌++◌, [], ◌∷◌, Err, IfOk, List, Ok, OnErr, Result, ℕ, ap, arith}
use Rattle.std.proofs.Common.{inl, inr, length, length-append, refl, subst, sym}
use Rattle.std.proofs.lemmas.Bool.{cases_eq, cases_lt}
use Rattle.reassembly.specs.Bounds.{AllBounded, AllKeepFew, AreSpaced, IsBounded, IsWithinBounds, KeepsFew, octets_in}
use Rattle.reassembly.specs.Bounds.{octets_kept, options_in, options_kept}
use Rattle.reassembly.specs.Answer.{AnswerValue, answer_of}
use Rattle.reassembly.specs.Fragment.{FragmentValue, IsSound, most_options, options_len}
use Rattle.reassembly.specs.Partial.{PartialValue, TakenValue, Takes, completes, discarded_of, keeps, most_pieces}
use Rattle.reassembly.specs.Partial.{overfills, overlaps, passes_end, remembered, repeated, with_fragment}
use Rattle.reassembly.specs.Partial as partial
use Rattle.reassembly.specs.Piece.{PieceValue, Stands, StandsToAll, end_of, fragment_end, piece_in, placed}
use Rattle.reassembly.specs.Reassembly.{Adds, begins, begun, drops, joins, left_of, malformed, most_datagrams}
use Rattle.reassembly.specs.Types.{Answer, Fault, Standing}
use Rattle.reassembly.proofs.Places.{kept_first, kept_none, placed_before, placed_behind}

-- ---- the fragments of a datagram

spaced_octets : (ps : List PieceValue) (start : ℕ) → AreSpaced start ps → start + octets_in ps ≤ 65535
spaced_octets [] start s = omega (arith, s)
spaced_octets (p ∷ ps) start s = omega (arith, s.0, spaced_octets ps (end_of p) s.2)

apart_first : (q : PieceValue) (qs : List PieceValue) (f : FragmentValue)
    → StandsToAll (q ∷ qs) f Standing.Apart → Stands q f Standing.Apart × StandsToAll qs f Standing.Apart
apart_first q qs f (inl (h, other)) = absurd (other refl)
apart_first q qs f (inr (h, rest)) = (h, rest)

-- a fragment that is apart from these begins behind one that begins before it, and else ends before that one
behind_first : (q : PieceValue) (f : FragmentValue) → IsSound f → Stands q f Standing.Apart
    → q.offset < f.frag_offset → end_of q ≤ f.frag_offset
behind_first q f sound apart behind = elim (cases_lt f.frag_offset (end_of q)) [
  | inl less ↦ absurd (apart.0 (omega (arith, behind), less))
  | inr more ↦ more
]

before_first : (q : PieceValue) (f : FragmentValue) → q.offset < end_of q → Stands q f Standing.Apart
    → f.frag_offset ≤ q.offset → fragment_end f ≤ q.offset
before_first q f some apart before = elim (cases_lt q.offset (fragment_end f)) [
  | inl less ↦ absurd (apart.0 (less, omega (arith, before, some)))
  | inr more ↦ more
]

some_bytes : (f : FragmentValue) → IsSound f → f.frag_offset < fragment_end f
some_bytes f sound = let k = sound.order.bytes in omega (arith, k)

spaced-placed : (number : ℕ) (f : FragmentValue) (ps : List PieceValue) (start : ℕ) → IsSound f
    → start ≤ f.frag_offset → AreSpaced start ps → StandsToAll ps f Standing.Apart
    → AreSpaced start (placed (piece_in number f) ps)
spaced-placed number f [] start sound from s apart = (from, some_bytes f sound, sound.within)
spaced-placed number f (q ∷ qs) start sound from s apart =
    let each = apart_first q qs f apart in
    elim (cases_lt q.offset f.frag_offset) [
      | inl behind ↦
          subst (AreSpaced start) (sym (placed_behind (piece_in number f) q qs behind)) (
            s.0,
            s.1,
            spaced-placed number f qs (end_of q) sound (behind_first q f sound each.0 behind) s.2 each.1,
          )
      | inr before ↦
          subst (AreSpaced start) (sym (placed_before (piece_in number f) q qs before)) (
            from,
            some_bytes f sound,
            (before_first q f s.1 each.0 before, s.1, s.2),
          )
    ]

length-placed : (p : PieceValue) (ps : List PieceValue) → length (placed p ps) ≡ length ps + 1
length-placed p [] = refl
length-placed p (q ∷ qs) = elim (cases_lt q.offset p.offset) [
  | inl behind ↦ omega (arith, ap length (placed_behind p q qs behind), length-placed p qs)
  | inr before ↦ omega (arith, ap length (placed_before p q qs before))
]

-- ---- the hop-by-hop options of its fragments

keeps_few : (number : ℕ) (f : FragmentValue) → IsSound f → KeepsFew (piece_in number f)
keeps_few number f sound = elim (cases_eq f.frag_offset 0) [
  | inl is ↦ record {
    most =
        subst (λ o. options_len o ≤ most_options) (sym (kept_first f is))
        (let k = sound.options in omega (arith, k));
    first = λ other. absurd (other is);
  }
  | inr other ↦ record {
    most = subst (λ o. options_len o ≤ most_options) (sym (kept_none f other)) (omega arith);
    first = λ _. kept_none f other;
  }
]

few-placed : (p : PieceValue) (ps : List PieceValue) → KeepsFew p → AllKeepFew ps → AllKeepFew (placed p ps)
few-placed p [] few all = (few, tt)
few-placed p (q ∷ qs) few all = elim (cases_lt q.offset p.offset) [
  | inl behind ↦ subst AllKeepFew (sym (placed_behind p q qs behind)) (all.0, few-placed p qs few all.1)
  | inr before ↦ subst AllKeepFew (sym (placed_before p q qs before)) (few, all)
]

-- those behind the first byte have none
later_none : (ps : List PieceValue) (start : ℕ) → 0 < start → AreSpaced start ps → AllKeepFew ps → options_in ps ≡ 0
later_none [] start some spaced few = refl
later_none (p ∷ ps) start some spaced few =
    omega (
      arith,
      ap options_len (few.0.first (λ e. omega (arith, e, some, spaced.0))),
      later_none ps (end_of p) (omega (arith, spaced.1)) spaced.2 few.1,
    )

few_options : (ps : List PieceValue) → AreSpaced 0 ps → AllKeepFew ps → options_in ps ≤ most_options
few_options [] spaced few = omega arith
few_options (p ∷ ps) spaced few =
    let k = few.0.most in
    omega (arith, k, later_none ps (end_of p) (omega (arith, spaced.1)) spaced.2 few.1)

-- ---- a datagram

bounded-begun : (number : ℕ) (f : FragmentValue) → IsSound f → IsBounded (begun number f)
bounded-begun number f sound = record {
  spaced = (omega arith, some_bytes f sound, sound.within);
  few = omega arith;
  options = (keeps_few number f sound, tt);
}

bounded-discarded : (d : PartialValue) → IsBounded (discarded_of d)
bounded-discarded d = record { spaced = omega arith; few = omega arith; options = tt }

bounded-more : (d : PartialValue) (number : ℕ) (f : FragmentValue) → IsSound f → IsBounded d
    → StandsToAll d.pieces f Standing.Apart → length d.pieces < most_pieces → IsBounded (with_fragment d number f)
bounded-more d number f sound b apart room = record {
  spaced = spaced-placed number f d.pieces 0 sound (omega arith) b.spaced apart;
  few = omega (arith, length-placed (piece_in number f) d.pieces, room);
  options = few-placed (piece_in number f) d.pieces (keeps_few number f sound) b.options;
}

bounded-takes : (d new : PartialValue) (number : ℕ) (f : FragmentValue) (taken : TakenValue) → IsSound f
    → IsBounded d → Takes d number f taken new → IsBounded new
bounded-takes d new number f taken sound b (remembered e t n) = subst IsBounded (sym n) b
bounded-takes d new number f taken sound b (repeated e s t n) = subst IsBounded (sym n) b
bounded-takes d new number f taken sound b (overlaps e s t n) = subst IsBounded (sym n) (bounded-discarded d)
bounded-takes d new number f taken sound b (passes_end e s t n) = subst IsBounded (sym n) (bounded-discarded d)
bounded-takes d new number f taken sound b (overfills e s most t n) =
    subst IsBounded (sym n) (bounded-discarded d)
bounded-takes d new number f taken sound b (keeps e s room never t n) =
    subst IsBounded (sym n) (bounded-more d number f sound b s room)
bounded-takes d new number f taken sound b (completes e s room tiles t n) =
    subst IsBounded (sym n) (bounded-more d number f sound b s room)

-- ---- all datagrams

all-append : (ds es : List PartialValue) → AllBounded ds → AllBounded es → AllBounded (ds ++ es)
all-append [] es b c = c
all-append (d ∷ ds) es b c = (b.0, all-append ds es b.1 c)

all-front : (ds es : List PartialValue) → AllBounded (ds ++ es) → AllBounded ds
all-front [] es b = tt
all-front (d ∷ ds) es b = (b.0, all-front ds es b.1)

all-rest : (ds es : List PartialValue) → AllBounded (ds ++ es) → AllBounded es
all-rest [] es b = b
all-rest (d ∷ ds) es b = all-rest ds es b.1

all_octets : (ds : List PartialValue) → AllBounded ds → octets_kept ds ≤ 65535 * length ds
all_octets [] b = omega arith
all_octets (d ∷ ds) b = omega (arith, spaced_octets d.pieces 0 b.0.spaced, all_octets ds b.1)

all_options : (ds : List PartialValue) → AllBounded ds → options_kept ds ≤ most_options * length ds
all_options [] b = omega arith
all_options (d ∷ ds) b = omega (arith, few_options d.pieces b.0.spaced b.0.options, all_options ds b.1)

within : (ds : List PartialValue) → length ds ≤ most_datagrams → AllBounded ds → IsWithinBounds ds
within ds few each = record {
  few = few;
  each = each;
  octets = omega (arith, few, all_octets ds each);
  options = omega (arith, few, all_options ds each);
}

pub none_within : IsWithinBounds []
none_within = record { few = omega arith; each = tt; octets = omega arith; options = omega arith }

left-bounded : (taken : TakenValue) (d : PartialValue) → IsBounded d → AllBounded (left_of taken d)
left-bounded partial.kept d b = (b, tt)
left-bounded (partial.whole w) d b = tt
left-bounded (partial.refused r) d b = (b, tt)

left-few : (taken : TakenValue) (d : PartialValue) → length (left_of taken d) ≤ 1
left-few partial.kept d = omega arith
left-few (partial.whole w) d = omega arith
left-few (partial.refused r) d = omega arith

adds_within : (old new : List PartialValue) (number : ℕ) (f : FragmentValue) (given : AnswerValue)
    → IsWithinBounds old → Adds old number f given new → IsWithinBounds new
adds_within old new number f given b (malformed r m e n) = subst IsWithinBounds (sym n) b
adds_within old new number f given b (begins s u room e n) =
    subst IsWithinBounds (sym n)
    (within (old ++ (begun number f ∷ []))
    (omega (arith, length-append old (begun number f ∷ []), room))
    (all-append old (begun number f ∷ []) b.each (bounded-begun number f s, tt)))
adds_within old new number f given b (drops first rest s u most o e n) =
    let each = subst AllBounded o b.each in
    let few = b.few in
    subst IsWithinBounds (sym n)
    (within (rest ++ (begun number f ∷ []))
    (omega (arith, length-append rest (begun number f ∷ []), ap length o, few))
    (all-append rest (begun number f ∷ []) each.1 (bounded-begun number f s, tt)))
adds_within old new number f given b (joins before behind d changed taken s o u k t e n) =
    let each = subst AllBounded o b.each in
    let rest = all-rest before (d ∷ behind) each in
    let few = b.few in
    let changed_is = bounded-takes d changed number f taken s rest.0 t in
    subst IsWithinBounds (sym n)
    (within (before ++ (left_of taken changed ++ behind))
    (omega (
      arith,
      length-append before (left_of taken changed ++ behind),
      length-append (left_of taken changed) behind,
      left-few taken changed,
      length-append before (d ∷ behind),
      ap length o,
      few,
    ))
    (all-append before (left_of taken changed ++ behind) (all-front before (d ∷ behind) each)
    (all-append (left_of taken changed) behind (left-bounded taken changed changed_is) rest.1)))

-- with an answer or without memory
pub stays_within : (old new : List PartialValue) (number : ℕ) (f : FragmentValue) (result : Result Answer Fault)
    → IfOk result (λ answer. Adds old number f (answer_of answer) new) → OnErr result (IsSound f × (new ≡ old))
    → IsWithinBounds old → IsWithinBounds new
stays_within old new number f (Ok answer) adds fault b = adds_within old new number f (answer_of answer) b adds
stays_within old new number f (Err e) adds fault b = subst IsWithinBounds (sym fault.1) b
