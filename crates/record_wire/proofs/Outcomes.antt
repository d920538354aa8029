-- The names of a text that is not the root's.
use Rattle.record_wire.proofs.Words.{◌≡◌, [], ◌∷◌, IsNameText, List, ℕ, codes, written_all}

-- a text that is not the root's has no labels where it has none with a first one
pub no_labels : {A : Type 0} (text : List ℕ) (labels : List (List ℕ)) → (text ≡ codes "." → ⊥)
    → ((label : List ℕ) (more : List (List ℕ)) → IsNameText text (label ∷ more) → ⊥) → IsNameText text labels → A
no_labels text [] root none is = absurd (root is.is)
no_labels text (label ∷ labels) root none is = absurd (none label labels is)

-- the octets of a text that is not the root's
pub some_labels : (text octets : List ℕ) (labels : List (List ℕ)) → (text ≡ codes "." → ⊥)
    → ((label : List ℕ) (more : List (List ℕ)) → IsNameText text (label ∷ more)
    → octets ≡ written_all (label ∷ more)) → IsNameText text labels → octets ≡ written_all labels
some_labels text octets [] root some is = absurd (root is.is)
some_labels text octets (label ∷ labels) root some is = some label labels is
