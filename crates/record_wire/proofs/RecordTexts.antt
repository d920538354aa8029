-- The words of a line of a zone file.
use Rattle.record_wire.proofs.Words.{◌≡◌, ◌+◌, ◌<◌, [], ◌∷◌, ◌++◌, ◌∙◌, List, ℕ, ap, append-nil, append_assoc, arith}
use Rattle.record_wire.proofs.Words.{codes, decimal}
use Rattle.record_wire.proofs.Words.{flat_map, get_or, length, length-append, name_text, refl, sym, take, wire, written}
use Rattle.std.proofs.lemmas.Grind.{common_steps}
use Rattle.record_wire.specs.ZoneText.{whole_name, word, generic_text}
use Rattle.wirebase.specs.Hexadecimal.{encode_lower}

-- ---- names

-- byte 0 alone is the root
pub root_name : (labels : List (List ℕ)) → length (wire labels) ≡ 1 → name_text labels ≡ whole_name labels
unfolding whole_name
root_name [] e = refl
root_name (label ∷ labels) e =
    absurd (omega (arith, e, length-append (label ++ flat_map written labels) (0 ∷ [])))

pub longer_name : (labels : List (List ℕ)) → (length (wire labels) ≡ 1 → ⊥)
    → whole_name labels ≡ name_text labels ++ codes "."
unfolding whole_name
longer_name [] e = absurd (e refl)
longer_name (label ∷ labels) e = refl

-- ---- one more of a list, and what it is written as

pub one_more : {X : Type 0} (text : X → List ℕ) (xs : List X) (i : ℕ) (x : X) → i < length xs
    → flat_map text (take i xs) ++ text (get_or xs i x) ≡ flat_map text (take (i + 1) xs)
one_more text xs i x inside = grind (arith, common_steps)

-- a text more
pub one_text : (done texts text rest whole : List ℕ) → done ++ texts ≡ whole → texts ≡ text ++ rest
    → (done ++ text) ++ rest ≡ whole
one_text done texts text rest whole is e =
    append_assoc done text rest ∙ (ap (λ (l : List ℕ). done ++ l) (sym e) ∙ is)

-- ---- data of any type

pub generic_none : (bytes : List ℕ) → length bytes ≡ 0 → codes "\\# " ++ decimal (length bytes) ≡ generic_text bytes
unfolding word
generic_none [] none = ap (λ (l : List ℕ). 92 ∷ 35 ∷ 32 ∷ l) (sym (append-nil (decimal 0)))
generic_none (byte ∷ rest) none = absurd (omega (arith, none))

pub generic_some : (bytes : List ℕ) → (length bytes ≡ 0 → ⊥)
    → codes "\\# " ++ decimal (length bytes) ++ codes " " ++ encode_lower bytes ≡ generic_text bytes
unfolding word
generic_some [] some = absurd (some refl)
generic_some (byte ∷ rest) some =
    ap (λ (l : List ℕ). 92 ∷ 35 ∷ 32 ∷ l)
    (append_assoc (decimal (length (byte ∷ rest))) (codes " ") (encode_lower (byte ∷ rest)))
