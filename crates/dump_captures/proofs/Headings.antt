-- The parts of a heading.
use Rattle.std.proofs.Common.{◌≡◌, ℕ, ◌≤◌, List, [], ◌∷◌, ◌++◌, length, take, drop, ◌∙◌, arith, append_assoc}
use Rattle.dump_captures.specs.Heading.{tag_text, tags_text}

-- one tag more
pub one_tag : (done left all : List ℕ) → 4 ≤ length left → done ++ tags_text left ≡ all
    → (done ++ tag_text (take 4 left)) ++ tags_text (drop 4 left) ≡ all
one_tag done [] all some is = absurd (omega (arith, some))
one_tag done (a ∷ []) all some is = absurd (omega (arith, some))
one_tag done (a ∷ b ∷ []) all some is = absurd (omega (arith, some))
one_tag done (a ∷ b ∷ c ∷ []) all some is = absurd (omega (arith, some))
one_tag done (a ∷ b ∷ c ∷ d ∷ rest) all some is =
    append_assoc done (tag_text (a ∷ b ∷ c ∷ d ∷ [])) (tags_text rest) ∙ is
