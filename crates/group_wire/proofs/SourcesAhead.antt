-- The sources of a record or of a query in turn: they are what is computed, and that alone.
use Rattle.std.proofs.Common.{◌≡◌, ℕ, zero, suc, ◌+◌, ◌*◌, ◌/◌, ◌-◌, ◌≤◌, ◌<◌, List, [], ◌∷◌, ◌++◌, length, take, drop}
use Rattle.std.proofs.Common.{refl, sym, ap, ◌∙◌, arith}
use Rattle.std.specs.List.{AllByRecursion, concat}
use Rattle.std.proofs.Math.Nat.{mul-suc, mul-zero}
use Rattle.std.proofs.Math.Seq.{take-add}
use Rattle.std.proofs.lemmas.List.{length-take-le, length-drop}
use Rattle.group_wire.specs.declared.family.Family.{Family}
use Rattle.group_wire.specs.Family.{width}
use Rattle.group_wire.specs.Sources.{AreSources}
use Rattle.group_wire.specs.Sources.{sources_ahead, sources_in}
use Rattle.group_wire.proofs.Families.{div_more, div_none, div_fits}

length-sources : (w n : ℕ) (bytes : List ℕ) → length (sources_ahead w n bytes) ≡ n
unfolding sources_ahead
length-sources w zero bytes = refl
length-sources w (suc n) bytes = ap (λ (k : ℕ). suc k) (length-sources w n (drop w bytes))

each_source : (w n : ℕ) (bytes : List ℕ) → w * n ≤ length bytes
    → AllByRecursion (λ (source : List ℕ). length source ≡ w) (sources_ahead w n bytes)
unfolding sources_ahead
each_source w zero bytes room = tt
each_source w (suc n) bytes room = (
  length-take-le w bytes (omega (arith, room, mul-suc w n)),
  each_source w n (drop w bytes) (omega (arith, room, mul-suc w n, length-drop w bytes)),
)

whole_sources : (w n : ℕ) (bytes : List ℕ) → concat (sources_ahead w n bytes) ≡ take (w * n) bytes
unfolding sources_ahead
whole_sources w zero bytes = ap (λ (k : ℕ). take k bytes) (sym (mul-zero w))
whole_sources w (suc n) bytes =
    let more = ap (λ (l : List ℕ). take w bytes ++ l) (whole_sources w n (drop w bytes)) in
    let count : w + w * n ≡ w * suc n = omega (arith, mul-suc w n) in
    more ∙ sym (take-add w (w * n) bytes) ∙ ap (λ (k : ℕ). take k bytes) count

-- those of some bytes
pub sources_of : (f : Family) (bytes : List ℕ) → AreSources (width f) bytes (sources_in (width f) bytes)
sources_of f bytes =
    let w : ℕ = width f in
    let n : ℕ = length bytes / w in
    record {
      number = length-sources w n bytes;
      each = each_source w n bytes (div_fits f (length bytes));
      whole = whole_sources w n bytes ∙ ap (λ (k : ℕ). take (w * k) bytes) (sym (length-sources w n bytes));
    }

-- what a call of `next` gives, where `w` is the bytes of an address
pub source_ahead : (f : Family) (w : ℕ) (bytes rest : List ℕ) → w ≡ width f → w ≤ length bytes → rest ≡ drop w bytes
    → sources_in (width f) bytes ≡ take w bytes ∷ sources_in (width f) rest
unfolding sources_ahead
source_ahead f w bytes rest is room e =
    let shorter : length rest ≡ length bytes - w = ap (λ (l : List ℕ). length l) e ∙ length-drop w bytes in
    let number : length bytes / width f ≡ suc (length rest / width f) =
    div_more f (length bytes) (omega (arith, is, room))
    ∙ ap (λ (k : ℕ). suc (k / width f)) (omega (arith, is, shorter)) in
    ap (λ (k : ℕ). sources_ahead (width f) k bytes) number
    ∙ ap (λ (k : ℕ). take k bytes ∷ sources_ahead (width f) (length rest / width f) (drop k bytes)) (sym is)
    ∙ ap (λ (l : List ℕ). take w bytes ∷ sources_ahead (width f) (length rest / width f) l) (sym e)

pub no_source_ahead : (f : Family) (w : ℕ) (bytes : List ℕ) → w ≡ width f → length bytes < w
    → sources_in (width f) bytes ≡ []
unfolding sources_ahead
no_source_ahead f w bytes is few =
    ap (λ (k : ℕ). sources_ahead (width f) k bytes) (div_none f (length bytes) (omega (arith, is, few)))
