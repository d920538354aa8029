-- Marks of the kinds that were met tell which parts are the first.
use Rattle.dhcp_options.proofs.Words.{[], ◌<◌, ◌||◌, ◌∙◌, ◌∷◌, ◌≡◌, ◌≤◌, Answer, Bool, Err, List, Ok}
use Rattle.dhcp_options.proofs.Words.{PlacedAnswer, ap, arith, cases_eq, cond, eqb, false, get_or}
use Rattle.dhcp_options.proofs.Words.{inl, inr, is_among, length, marked, ne_eqb, not, octets_among, octets_of, part_of}
use Rattle.dhcp_options.proofs.Words.{parts, refl, sym, true, ℕ}
use Rattle.std.proofs.lemmas.List.{get_or-set_same, get_or-set_other, get_or-replicate, length-set}
use Rattle.std.proofs.Math.ListN.{set, replicate}
use Rattle.std.proofs.lemmas.Bool.{eq-eqb}
use Rattle.dhcp_options.proofs.SmallKinds.{AreSmall}

-- the marks are at the kinds that were met
pub record AreMarks (seen : List Bool) (before : List ℕ) : Type 0 where
  pub each : (k : ℕ) → k < 256 → get_or seen k false ≡ is_among k before
  pub room : 256 ≤ length seen

pub mark-more : (seen : List Bool) (before : List ℕ) (kind : ℕ) → kind < 256 → AreMarks seen before
    → AreMarks (set seen kind true) (kind ∷ before)
mark-more seen before kind l marks =
    record {
      each = λ k h. elim (cases_eq k kind) as (λ _. get_or (set seen kind true) k false ≡ is_among k (kind ∷ before)) [
        | inl e ↦
            let room : kind < length seen = omega (arith, marks.room) in
            ap (λ (n : ℕ). get_or (set seen kind true) n false) e ∙ get_or-set_same seen kind true false room
            ∙ ap (λ (b : Bool). b || is_among k before) (sym (eq-eqb k kind e))
        | inr other ↦
            get_or-set_other seen kind k true false other ∙ marks.each k h
            ∙ ap (λ (b : Bool). b || is_among k before) (sym (ne_eqb k kind other))
      ];
      room = omega (arith, marks.room, length-set seen kind true);
    }

pub marks-parts : (seen : List Bool) (before : List ℕ) (given : List PlacedAnswer) → AreMarks seen before
    → AreSmall given → marked seen given ≡ parts before given
marks-parts seen before [] marks small = refl
marks-parts seen before (Ok p ∷ more) marks (l, small) =
    ap (λ (b : Bool). Ok (part_of p (not b)) ∷ marked (set seen p.option.kind true) more)
    (marks.each p.option.kind l)
    ∙ ap (λ (rest : List Answer). Ok (part_of p (not (is_among p.option.kind before))) ∷ rest)
    (marks-parts (set seen p.option.kind true) (p.option.kind ∷ before) more
    (mark-more seen before p.option.kind l marks) small)
marks-parts seen before (Err refusal ∷ more) marks small =
    ap (λ (rest : List Answer). Err refusal ∷ rest) (marks-parts seen before more marks small)

pub no-marks : AreMarks (replicate 256 false) []
no-marks = record { each = λ k h. get_or-replicate 256 k false false h; room = omega arith }

-- ---- the octets of a kind

same_octets : (b : Bool) (octets : List ℕ) (x y : List (List ℕ)) → x ≡ y
    → cond b (octets ∷ x) x ≡ cond b (octets ∷ y) y
same_octets true octets x y e = ap (λ (l : List (List ℕ)). octets ∷ l) e
same_octets false octets x y e = e

pub octets-marked : (kind : ℕ) (seen : List Bool) (given : List PlacedAnswer)
    → octets_among kind given ≡ octets_of kind (marked seen given)
octets-marked kind seen [] = refl
octets-marked kind seen (Ok p ∷ more) =
    same_octets (eqb p.option.kind kind) p.option.body _ _
    (octets-marked kind (set seen p.option.kind true) more)
octets-marked kind seen (Err refusal ∷ more) = octets-marked kind seen more
