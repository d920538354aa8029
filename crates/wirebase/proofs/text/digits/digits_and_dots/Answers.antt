-- The table, compared in all its entries.
use Rattle.wirebase.proofs.Words.{◌≡◌, ◌+◌, ◌*◌, ◌&&◌, [], ◌∷◌, ◌++◌, Bool, List, ℕ, codes, decimal, get_or, refl, suc}
use Rattle.wirebase.proofs.Words.{take, true, zero}
use Rattle.std.proofs.lemmas.Bool.Decides.{Decides-below_and}
use Rattle.std.proofs.lemmas.Slice.Eq.{bytes_eq-Decides}
use Rattle.std.specs.Str.{bytes_eq}
use Rattle.std.specs.Fmt.{digits}
use Rattle.wirebase.specs.declared.text.digits.TheConstants.{OCTETS}
use Rattle.wirebase.proofs.text.digits.digits_and_dots.Goals as goal

-- the table's entry for a number, and the required entry
abbrev found : ℕ → List ℕ
found n =
    get_or OCTETS.now (4 * n) 0 ∷ get_or OCTETS.now (4 * n + 1) 0 ∷ get_or OCTETS.now (4 * n + 2) 0
    ∷ get_or OCTETS.now (4 * n + 3) 0 ∷ []

abbrev wanted : ℕ → List ℕ
wanted n = take 4 (decimal n ++ codes "...")

-- they agree at each number below this
abbrev agree : ℕ → Bool
agree zero = true
agree (suc n) = bytes_eq (found n) (wanted n) && agree n

pub returns : goal.returns
unfolding digits
returns c =
    (Decides-below_and (λ n. bytes_eq (found n) (wanted n)) (λ n. found n ≡ wanted n) agree
    (λ n. bytes_eq-Decides (found n) (wanted n)) refl (λ _. refl) 256).0 refl c.args.number c.ranges.number.fits
