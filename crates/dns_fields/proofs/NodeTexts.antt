-- Entries of data, one after another.
use Rattle.std.proofs.Common.{◌≡◌, ◌/◌, ◌≤◌, ◌∷◌, List, ℕ, arith, drop, length}
use Rattle.std.proofs.Common.{refl, suc, take}
use Rattle.std.proofs.lemmas.List.{length-drop}
use Rattle.dns_fields.specs.Node.{part_text, part_texts, width}
use Rattle.dns_fields.specs.declared.node.Part.{Part}

-- the number of entries where one is there
count_more : (part : Part) (bytes : List ℕ) → width part ≤ length bytes
    → length bytes / width part ≡ suc (length (drop (width part) bytes) / width part)
count_more Part.Address bytes there = omega (arith, length-drop 6 bytes)
count_more Part.Name bytes there = omega (arith, length-drop 18 bytes)

-- their texts
pub texts_more : (part : Part) (bytes : List ℕ) → width part ≤ length bytes → part_texts part bytes
    ≡ part_text part (take (width part) bytes) ∷ part_texts part (drop (width part) bytes)
texts_more part bytes there = rw (count_more part bytes there) refl
