-- What is seen behind 128 bytes.
use Rattle.std.proofs.Common.{◌↔◌, ℕ, ◌-◌, ◌≤◌, Bool, IsTrue, List, length, take, drop, subst, arith}
use Rattle.std.proofs.lemmas.List.{take_all, length-drop}
use Rattle.extension_wire.specs.Split.{IsStructureByContent, HasStructure}

pub seen_behind : (bytes : List ℕ) (b : Bool) → 136 ≤ length bytes
    → (IsTrue b ↔ IsStructureByContent (take (length bytes - 128) (drop 128 bytes)))
    → IsTrue b ↔ HasStructure bytes
seen_behind bytes b long is =
    let same = take_all (length bytes - 128) (drop 128 bytes) (omega (arith, length-drop 128 bytes)) in
    let tail : IsTrue b ↔ IsStructureByContent (drop 128 bytes) =
    subst (λ (l : List ℕ). IsTrue b ↔ IsStructureByContent l) same is in
    (λ yes. (long, tail.0 yes), λ has. tail.1 has.1)
