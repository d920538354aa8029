-- Kinds of options, as numbers.
use Rattle.std.proofs.Common.{◌≡◌, [], ◌∷◌, ◌++◌, List, ap, arith, codes, decimal, false, flat_map, length, map, refl}
use Rattle.std.proofs.Common.{suc, ℕ}
use Rattle.std.specs.Prelude.{◌==◌}
use Rattle.wirebase.specs.Bytes.{IsBytes}
use Rattle.dhcp_wire.specs.Dhcpv4Display.{commas}
use Rattle.packet_fields.specs.Fields.{AllFit, numbers_text, with_commas}

pub bytes_fit : (kinds : List ℕ) → IsBytes kinds → AllFit kinds
bytes_fit [] bytes = tt
bytes_fit (kind ∷ kinds) bytes = (omega (arith, bytes 0), bytes_fit kinds (λ i. bytes (suc i)))

behind_commas : (kinds : List ℕ)
    → flat_map (λ next. codes "," ++ decimal next) kinds ≡ flat_map (λ next. codes "," ++ next) (map decimal kinds)
behind_commas [] = refl
behind_commas (kind ∷ kinds) = ap (λ more. codes "," ++ decimal kind ++ more) (behind_commas kinds)

-- some numbers in a line, and any in an array
pub line_is : (kinds : List ℕ) → false ≡ (length kinds == 0) → commas decimal kinds ≡ with_commas (map decimal kinds)
line_is [] some = absurd (cc some)
line_is (kind ∷ kinds) some = ap (λ more. decimal kind ++ more) (behind_commas kinds)

pub array_is : (kinds : List ℕ) → codes "[" ++ commas decimal kinds ++ codes "]" ≡ numbers_text kinds
array_is [] = refl
array_is (kind ∷ kinds) = refl
