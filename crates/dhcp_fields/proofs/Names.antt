-- The bytes before the first zero.
use Rattle.std.proofs.Common.{◌≡◌, ◌<◌, ◌≤◌, [], ◌∷◌, List, ap, arith, get_or, length, ne_eqb, refl, suc, take, zero, ℕ}
use Rattle.dhcp_wire.specs.Dhcpv4Packet.{HasNoZero}
use Rattle.dhcp_fields.specs.Texts.{before_zero}

pub all_before : (bytes : List ℕ) (count : ℕ) → length bytes ≤ count → HasNoZero (take count bytes)
    → bytes ≡ before_zero bytes
all_before [] count long none = refl
all_before (b ∷ bs) zero long none = absurd (omega (arith, long))
all_before (b ∷ bs) (suc count) long (some, more) =
    rw (ne_eqb b 0 some) (ap (λ r. b ∷ r) (all_before bs count (omega (arith, long)) more))

pub some_before : (bytes : List ℕ) (count : ℕ) → count < length bytes → HasNoZero (take count bytes)
    → get_or bytes count 0 ≡ 0 → take count bytes ≡ before_zero bytes
some_before [] count inside none is = absurd (omega (arith, inside))
some_before (b ∷ bs) zero inside none is = rw is refl
some_before (b ∷ bs) (suc count) inside (some, more) is =
    rw (ne_eqb b 0 some) (ap (λ r. b ∷ r) (some_before bs count (omega (arith, inside)) more is))
