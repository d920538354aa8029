-- Records in turn.
use Rattle.std.proofs.Common.{◌≡◌, ◌-◌, ◌<◌, List, ℕ, arith, drop, false, refl, suc, zero}
use Rattle.neighbor_fields.specs.Records.{counted_len, is_cut, records_lack}

-- the first is whole, and the others are left
pub lack_later : (width count : ℕ) (bytes others : List ℕ) → 0 < count → is_cut width bytes ≡ false
    → others ≡ drop (counted_len width bytes) bytes
    → records_lack width count bytes ≡ records_lack width (count - 1) others
lack_later width zero bytes others some whole others_is = absurd (omega (arith, some))
lack_later width (suc count) bytes others some whole others_is =
    let e : suc count - 1 ≡ count = omega arith in rw (whole, others_is, e) refl
