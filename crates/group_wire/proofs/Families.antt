-- What holds of both protocols: arithmetic with the bytes of an address.
use Rattle.std.proofs.Common.{◌≡◌, ℕ, suc, ◌+◌, ◌*◌, ◌/◌, ◌-◌, ◌≤◌, ◌<◌, List, length, take, drop, arith, refl}
use Rattle.std.proofs.Common.{min, subst, sym}
use Rattle.std.proofs.lemmas.List.{length-drop, length-take-le, take_all}
use Rattle.wirebase.specs.Bytes.{part}
use Rattle.group_wire.specs.declared.family.Family.{Family}
use Rattle.group_wire.specs.Family.{width}
use Rattle.group_wire.specs.Sources.{AreAddresses, addresses_in}

pub div_more : (f : Family) (n : ℕ) → width f ≤ n → n / width f ≡ suc ((n - width f) / width f)
div_more Family.Igmp n h = omega (arith, h)
div_more Family.Mld n h = omega (arith, h)

pub div_none : (f : Family) (n : ℕ) → n < width f → n / width f ≡ 0
div_none Family.Igmp n h = omega (arith, h)
div_none Family.Mld n h = omega (arith, h)

pub div_fits : (f : Family) (n : ℕ) → width f * (n / width f) ≤ n
div_fits Family.Igmp n = omega arith
div_fits Family.Mld n = omega arith

pub div_times : (f : Family) (n : ℕ) → width f * n / width f ≡ n
div_times Family.Igmp n = omega arith
div_times Family.Mld n = omega arith

-- as many addresses as some bytes hold
fits_in : (f : Family) (n len : ℕ) → n ≤ len / width f → width f * n ≤ len
fits_in Family.Igmp n len few = omega (arith, few)
fits_in Family.Mld n len few = omega (arith, few)

pub times_fits : (f : Family) (w n len : ℕ) → w ≡ width f → n ≤ len / w → w * n ≤ len
times_fits f w n len is = subst (λ (k : ℕ). n ≤ len / k → k * n ≤ len) (sym is) (fits_in f n len)

-- as many addresses as are whole and can be counted
counted_fits : (f : Family) (n : ℕ) → width f * min (n / width f) 65535 ≤ n
counted_fits Family.Igmp n = omega arith
counted_fits Family.Mld n = omega arith

pub addresses_whole : (f : Family) (bytes : List ℕ) → AreAddresses (width f) (addresses_in (width f) bytes)
addresses_whole f bytes =
    let n : ℕ = min (length bytes / width f) 65535 in
    (n, length-take-le (width f * n) bytes (counted_fits f (length bytes)), omega arith)

-- the bytes behind some others, as many as there are
pub part_behind : (l : List ℕ) (i j n m : ℕ) → i ≡ j → n ≡ m → take (i + n - i) (drop i l) ≡ part l j (j + m)
unfolding part
part_behind l i j n m e k = rw (e, k) refl

pub rest_behind : (l : List ℕ) (i j : ℕ) → i ≡ j → take (length l - i) (drop i l) ≡ drop j l
rest_behind l i j e =
    rw (sym e) (take_all (length l - i) (drop i l) (omega (arith, length-drop i l)))
