use Rattle.dns_wire.proofs.Words.{◌≡◌, ◌<◌, ◌≤◌, ◌-◌, [], ◌∷◌, ◌++◌, ◌∙◌, Bor, List, ℕ, ap, append_assoc, arith, codes}
use Rattle.dns_wire.proofs.Words.{drop, get_or, length, map, names_set, ne_eqb, refl, rules, subst, sym, take, take_all}
use Rattle.std.proofs.Common.{bit_and}
use Rattle.std.proofs.lemmas.Grind.{put_two}
use native.Mathlib.Numerals.{unary_clauses}
use Rattle.dns_wire.proofs.dns.display.fmt_flags.Goals as goal

abbrev rows : List (Bor (List ℕ) × ℕ) → List (List ℕ × ℕ)
rows names = map (λ row. (row.0.now, row.1)) names

abbrev no_row : Bor (List ℕ) × ℕ
no_row = (record { ref_ptr = (0, 0); now = [] }, 0)

one_set : (done front none all : List ℕ) (names : List (Bor (List ℕ) × ℕ)) (bits : ℕ)
    → 1 ≤ length names → (bit_and bits (get_or names 0 no_row).1 ≡ 0 → ⊥)
    → done ++ names_set front none (rows names) bits ≡ all
    → (done ++ (front ++ (get_or names 0 no_row).0.now))
    ++ names_set (codes ",") [] (rows (take (length names - 1) (drop 1 names))) bits ≡ all
one_set done front none all [] bits some set is = absurd (omega (arith, some))
one_set done front none all (row ∷ rest) bits some set is =
    let whole : take (length (row ∷ rest) - 1) (drop 1 (row ∷ rest)) ≡ rest =
    simp unary_clauses (take_all (length rest) rest (omega arith)) in
    let step : names_set front none (rows (row ∷ rest)) bits
    ≡ front ++ row.0.now ++ names_set (codes ",") [] (rows rest) bits = rw (ne_eqb (bit_and bits row.1) 0 set) refl in
    subst (λ names. (done ++ (front ++ row.0.now)) ++ names_set (codes ",") [] (rows names) bits ≡ all) (sym whole)
    (grind (arith, append_assoc, step, is))

none_set : (front none : List ℕ) (names : List (Bor (List ℕ) × ℕ)) (bits : ℕ) → length names < 1
    → names_set front none (rows names) bits ≡ none
none_set front none [] bits h = refl
none_set front none (row ∷ rest) bits h = absurd (omega (arith, h))

pub loop-left-preserved-in_ok-write : goal.loop-left-preserved-in_ok-write
loop-left-preserved-in_ok-write g c = (
  search rules,
  search rules,
  λ plain.
      let (done, is, before) = c.loop-left.invariant.2 plain in
      let front = c.loop-left.front.now in
      let names = c.loop-left.left.now in
      let name = (get_or names 0 no_row).0.now in (
        done ++ (front ++ name),
        one_set done front c.loop-left.none.now _ names c.args.bits c.in-len1-up.len_at_least
            c.if-bits-bit-ne0.true is,
        put_two _ _ _ _ _ _ _ before (c.write.ensures.writes before.plain (search rules)) refl,
      ),
)

pub returns : goal.returns
returns g c = λ plain ok.
    let (done, is, before) = c.loop-left.invariant.2 plain in
    let none = none_set c.loop-left.front.now c.loop-left.none.now c.loop-left.left.now c.args.bits
    c.in_default.len_below in
    put_two _ _ _ _ _ _ _ before (c.write_str.ensures.writes before.plain ok)
    (ap (λ (text : List ℕ). done ++ text) (sym none) ∙ is)
