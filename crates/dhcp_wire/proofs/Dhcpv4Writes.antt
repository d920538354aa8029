-- Lemmas for a writer of options.
use Rattle.dhcp_wire.proofs.Words.{[], ◌+◌, ◌∙◌, ◌∷◌, ◌≡◌, ◌≤◌, IsBlank, List, OptionValue, Puts, Writer, ℕ, ap}
use Rattle.dhcp_wire.proofs.Words.{append-nil, arith, be8, common_steps, drop, fields, length, option_text, over}
use Rattle.dhcp_wire.proofs.Words.{over-exact, over-fits, over-puts, refl, sym}
use Rattle.std.proofs.lemmas.Slice.{take-put_mid, drop-put_mid}

-- an option, field by field
option-fields : (o : OptionValue) → fields (be8 o.kind ∷ be8 (length o.body) ∷ o.body ∷ []) ≡ option_text o
unfolding fields be8
option-fields o = ap (λ (l : List ℕ). o.kind ∷ length o.body ∷ l) (append-nil o.body)

option-len : (o : OptionValue) → length (option_text o) ≡ 2 + length o.body
option-len o = omega arith

-- octets of its length hold just the option
pub option-whole : (old : List ℕ) (w v : Writer) (o : OptionValue) → IsBlank w old → length old ≡ 2 + length o.body
    → Puts w v (be8 o.kind ∷ be8 (length o.body) ∷ o.body ∷ []) → v.buffer.now ≡ option_text o
option-whole old w v o fresh long puts =
    over-puts old w v (be8 o.kind ∷ be8 (length o.body) ∷ o.body ∷ []) fresh puts
    ∙ ap (λ (text : List ℕ). over old text) (option-fields o)
    ∙ over-exact old (option_text o) (long ∙ sym (option-len o))

mark-fields : fields (be8 255 ∷ []) ≡ 255 ∷ []
unfolding fields be8
mark-fields = refl

-- the end mark over the first octet
pub mark-first : (old : List ℕ) (w v : Writer) → IsBlank w old → 1 ≤ length old → Puts w v (be8 255 ∷ [])
    → v.buffer.now ≡ 255 ∷ drop 1 old
mark-first old w v fresh some puts =
    over-puts old w v (be8 255 ∷ []) fresh puts ∙ ap (λ (text : List ℕ). over old text) mark-fields
    ∙ over-fits old (255 ∷ []) some

pub ruleset writes = (common_steps, take-put_mid, drop-put_mid)
