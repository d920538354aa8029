-- The texts of options one after another.
use Rattle.opt_wire.proofs.Words.{[], ◌++◌, ◌+◌, ◌∙◌, ◌∷◌, ◌≡◌, List, OptionValue, ℕ, ap, arith, fields, length}
use Rattle.opt_wire.proofs.Words.{length-append, refl, sum_by-cons, sym}
use Rattle.opt_wire.specs.Ipv6Option as option
use Rattle.opt_wire.specs.Ipv6Hbh.{text, text_len, HaveData, norm}
use Rattle.opt_wire.proofs.Ipv6OptionText as texts

-- the text of one more option
pub text-cons : (v : OptionValue) (options : List OptionValue) → text (v ∷ options) ≡ option.text v ++ text options
unfolding fields
text-cons v options = refl

-- options that hold their data take the bytes that they count
pub length-texts : (options : List OptionValue) → HaveData options → length (text options) ≡ text_len options
unfolding fields
length-texts [] h = refl
length-texts (v ∷ options) h =
    length-append (option.text v) (text options) ∙ (omega (arith, texts.length-text v h.0, length-texts options h.1))
    ∙ sym (sum_by-cons option.text_len v options)

-- ---- the normal form

pub norm-norm : (options : List OptionValue) → norm (norm options) ≡ norm options
norm-norm [] = refl
norm-norm (v ∷ options) =
    ap (λ (x : OptionValue). x ∷ norm (norm options)) (texts.norm-norm v)
    ∙ ap (λ (xs : List OptionValue). option.norm v ∷ xs) (norm-norm options)

pub norm-text : (options : List OptionValue) → text (norm options) ≡ text options
unfolding fields
norm-text [] = refl
norm-text (v ∷ options) =
    ap (λ (l : List ℕ). l ++ text (norm options)) (texts.norm-text v)
    ∙ ap (λ (l : List ℕ). option.text v ++ l) (norm-text options)
