-- The table is compared with the definition at each of the 256 bytes, by computation.
use Rattle.record_wire.proofs.Words.{◌≡◌, ◌&&◌, Bool, Decides-below_and, ℕ, beq, booleans_Decides, false, is_usual}
use Rattle.record_wire.proofs.Words.{refl, slice_index_or, suc, true, zero}
use Rattle.record_wire.specs.declared.name.dotted.TheConstants.{USUAL}
use Rattle.record_wire.proofs.name.dotted.is_usual.Goals as goal

abbrev found : ℕ → Bool
found byte = slice_index_or {A = Bool} USUAL byte false

-- they agree at each byte below this
abbrev agree : ℕ → Bool
agree zero = true
agree (suc byte) = beq (found byte) (is_usual byte) && agree byte

pub returns : goal.returns
returns c =
    (Decides-below_and (λ byte. beq (found byte) (is_usual byte)) (λ byte. found byte ≡ is_usual byte) agree
    (λ byte. booleans_Decides (found byte) (is_usual byte)) refl (λ _. refl) 256).0 refl c.args.byte c.ranges.byte.fits
