-- The routers of an advertisement in turn: they are what is computed, and that alone.
use Rattle.std.proofs.Common.{◌≡◌, ℕ, zero, suc, ◌+◌, ◌*◌, ◌-◌, ◌≤◌, ◌<◌, ◌⊎◌, Bool, true, false, List, [], ◌∷◌, ◌++◌}
use Rattle.std.proofs.Common.{length, take, drop, inl, inr, refl, sym, ap, ◌∙◌, arith}
use Rattle.std.specs.Prelude.{nat_le}
use Rattle.std.proofs.Math.Nat.{mul-suc, mul-zero}
use Rattle.std.proofs.Math.Seq.{take-add}
use Rattle.std.proofs.lemmas.Bool.{leb-true, leb-false, le-leb}
use Rattle.std.proofs.lemmas.List.{length-take-le, length-drop}
use Rattle.header_wire.specs.Routers.{AreEntries}
use Rattle.header_wire.specs.private.Routers.{after_entry, entries_ahead}

entries_step : (w n : ℕ) (bytes : List ℕ) → ((rest : List ℕ) → AreEntries w n rest (entries_ahead w n rest))
    → (fits : Bool) → nat_le w (length bytes) ≡ fits
    → AreEntries w (suc n) bytes (after_entry fits w bytes (entries_ahead w n))
entries_step w n bytes go true e =
    let more = go (drop w bytes) in
    let ahead : List (List ℕ) = entries_ahead w n (drop w bytes) in
    let count : w * suc (length ahead) ≡ w + w * length ahead = omega (arith, mul-suc w (length ahead)) in
    record {
      each = (length-take-le w bytes (leb-true w (length bytes) e), more.each);
      whole =
          ap (λ (l : List ℕ). take w bytes ++ l) more.whole ∙ sym (take-add w (w * length ahead) bytes)
          ∙ ap (λ (k : ℕ). take k bytes) (sym count);
      most = omega (arith, more.most);
      ends = λ fewer. omega (arith, more.ends (omega (arith, fewer)), length-drop w bytes, count);
    }
entries_step w n bytes go false e =
    let short = leb-false w (length bytes) e in
    record {
      each = tt;
      whole = ap (λ (k : ℕ). take k bytes) (sym (mul-zero w));
      most = omega arith;
      ends = λ fewer. omega (arith, short, mul-zero w);
    }

pub entries_of : (w n : ℕ) (bytes : List ℕ) → AreEntries w n bytes (entries_ahead w n bytes)
unfolding entries_ahead
entries_of w zero bytes = record {
  each = tt;
  whole = ap (λ (k : ℕ). take k bytes) (sym (mul-zero w));
  most = omega arith;
  ends = λ fewer. absurd (omega (arith, fewer));
}
entries_of w (suc n) bytes = entries_step w n bytes (λ rest. entries_of w n rest) (nat_le w (length bytes)) refl

-- ---- what a call of `next` gives

cut_by : (w : ℕ) (bytes : List ℕ) (go : List ℕ → List (List ℕ)) (fits : Bool) → nat_le w (length bytes) ≡ fits
    → length bytes < w → after_entry fits w bytes go ≡ []
cut_by w bytes go true e less = absurd (omega (arith, leb-true w (length bytes) e, less))
cut_by w bytes go false e less = refl

pub none_ahead : (w n : ℕ) (bytes : List ℕ) → (n ≡ 0) ⊎ (length bytes < w) → entries_ahead w n bytes ≡ []
unfolding entries_ahead
none_ahead w zero bytes e = refl
none_ahead w (suc n) bytes (inl e) = absurd (omega (arith, e))
none_ahead w (suc n) bytes (inr less) = cut_by w bytes (entries_ahead w n) (nat_le w (length bytes)) refl less

pub entry_ahead : (w n : ℕ) (bytes front rest : List ℕ) → (n ≡ 0 → ⊥) → w ≤ length bytes → front ≡ take w bytes
    → rest ≡ drop w bytes → entries_ahead w n bytes ≡ front ∷ entries_ahead w (n - 1) rest
unfolding entries_ahead
entry_ahead w zero bytes front rest some fits e f = absurd (some refl)
entry_ahead w (suc n) bytes front rest some fits e f =
    let less : suc n - 1 ≡ n = omega arith in
    ap (λ (b : Bool). after_entry b w bytes (entries_ahead w n)) (le-leb w (length bytes) fits)
    ∙ ap (λ (l : List ℕ). l ∷ entries_ahead w n (drop w bytes)) (sym e)
    ∙ ap (λ (l : List ℕ). front ∷ entries_ahead w n l) (sym f)
    ∙ ap (λ (k : ℕ). front ∷ entries_ahead w k rest) (sym less)
