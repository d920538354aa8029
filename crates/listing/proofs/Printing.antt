-- What is printed for octets that a grammar reads or refuses.
use Rattle.listing.proofs.Words.{Gains, GainsSome, IsListingOrRefused, List, OnOk, Option, Result, ℕ, codes, inl, inr}
use Rattle.listing.proofs.Words.{line, refl}
use Rattle.packet_fields.proofs.Printing.{gained_text}

-- what is printed for octets that are a value, and for octets that are not
pub listed : {V : Type 0} {IsValue : V → Type 0} {a b : Option (List ℕ)} (listing : V → List ℕ) (value : V)
    → IsValue value → Gains a b (listing value)
    → GainsSome a b (IsListingOrRefused IsValue listing)
listed listing value is gains = (listing value, inl (value, is, refl), gains)

pub listed_on_ok : {V E : Type 0} (IsValue : V → Type 0) (listing : V → List ℕ) (value : V)
    (a b : Option (List ℕ)) (r : Result (Unit {0}) E) → IsValue value → OnOk r (Gains a b (listing value))
    → OnOk r (GainsSome a b (IsListingOrRefused IsValue listing))
listed_on_ok IsValue listing value a b r is gains =
    gained_text (IsListingOrRefused IsValue listing) (listing value) a b r (inl (value, is, refl)) gains

pub refused_on_ok : {V E : Type 0} {IsValue : V → Type 0} (listing : V → List ℕ) (a b : Option (List ℕ))
    (r : Result (Unit {0}) E) → ((value : V) → IsValue value → ⊥)
    → OnOk r (Gains a b (line (codes "refused"))) → OnOk r (GainsSome a b (IsListingOrRefused IsValue listing))
refused_on_ok {IsValue = IsValue} listing a b r none gains =
    gained_text (IsListingOrRefused IsValue listing) (line (codes "refused")) a b r (inr (none, refl)) gains
