-- The VLAN tags that are in bytes.
use Rattle.frame_wire.proofs.Words.{◌≡◌, ◌≤◌, ◌<◌, [], ◌∷◌, List, Some, VlanTag, ℕ, ap, arith, drop, length, refl}
use Rattle.frame_wire.proofs.Words.{slice_index, tags_in}
use Rattle.std.specs.Iterator.{MakesProgress, at_most}
use Rattle.frame_wire.specs.LinkVlans.{tag_of}

pub tags_short : (bytes : List ℕ) → length bytes < 4 → tags_in bytes ≡ []
unfolding tags_in
tags_short [] short = refl
tags_short (a ∷ []) short = refl
tags_short (a ∷ b ∷ []) short = refl
tags_short (a ∷ b ∷ c ∷ []) short = refl
tags_short (a ∷ b ∷ c ∷ d ∷ rest) short = absurd (omega (arith, short))

pub tags_more : (bytes : List ℕ) → 4 ≤ length bytes
    → tags_in bytes ≡ tag_of (slice_index bytes 0) (slice_index bytes 1) ∷ tags_in (drop 4 bytes)
unfolding tags_in
tags_more [] long = absurd (omega (arith, long))
tags_more (a ∷ []) long = absurd (omega (arith, long))
tags_more (a ∷ b ∷ []) long = absurd (omega (arith, long))
tags_more (a ∷ b ∷ c ∷ []) long = absurd (omega (arith, long))
tags_more (a ∷ b ∷ c ∷ d ∷ rest) long = refl

pub tag_progress : (old new : List VlanTag) (tag : VlanTag) → old ≡ tag ∷ new
    → MakesProgress {S = List VlanTag} {A = VlanTag} (λ _. Unit {0}) (λ tags. at_most (length tags)) old (Some tag) new
tag_progress old new tag e =
    let fewer : length new < length old = omega (arith, ap length e) in
    record { on = λ _. (tt, tt, fewer); keeps = tt; rests = λ _. tt }
