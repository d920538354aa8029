-- The times that queries say, as they are kept.
use Rattle.std.proofs.Common.{◌≡◌, ◌*◌, ℕ, Option, None, Some, arith, refl, ap}
use Rattle.std.specs.Prelude.{option_map}
use Rattle.control_wire.specs.Duration.{micros_of, millis_of, of_micros}
use Rattle.control_wire.specs.DurationType.{Duration}

-- a time of whole milliseconds
pub millis_in : (time : Duration) (millis : ℕ) → Some (micros_of time) ≡ Some (1000 * millis) → millis_of time ≡ millis
millis_in time millis same = let whole : micros_of time ≡ 1000 * millis = cc in omega (arith, whole)

-- a time, if there is one, by its milliseconds
pub time_in : (time : Option Duration) (millis : Option ℕ)
    → option_map micros_of time ≡ option_map (λ n. 1000 * n) millis
    → time ≡ option_map (λ n. of_micros (1000 * n)) millis
time_in None None same = refl
time_in None (Some millis) same = cc
time_in (Some time) None same = cc
time_in (Some time) (Some millis) same =
    let whole : micros_of time ≡ 1000 * millis = cc in ap (λ n. Some (of_micros n)) whole
