use Rattle.wirebase.proofs.Words.{◌∙◌, List, ℕ, ap, fold, refl, word_sum}
use Rattle.wirebase.specs.Ipv4.{pseudo_sum}
use Rattle.wirebase.proofs.Ipv4Header.{over-pseudo}
use Rattle.wirebase.proofs.checksum.pseudo_header_v4.Goals as goal

pub returns : goal.returns
unfolding pseudo_sum
returns c =
    c.sum_of.ensures
    ∙ ap (λ (l : List ℕ). fold (word_sum l)) (c.write_pseudo_header_v4.ensures ∙ over-pseudo _ _ _ _ _ refl)
