-- The shape of a line, of which the words are cut off in turn.
use Rattle.std.proofs.Common.{◌≡◌, ℕ, suc, ◌-◌, ◌<◌, ◌≤◌, Bool, true, false, List, [], ◌∷◌, ◌++◌, length, take, drop}
use Rattle.std.proofs.Common.{get_or, codes, None, refl, ap, sym, ◌∙◌, arith, append_assoc, length-append, true≢false}
use Rattle.std.proofs.lemmas.Bool.{le-leb, lt-leb}
use Rattle.std.specs.Prelude.{◌==◌, bytes_eq, map}
use Rattle.dump_lines.specs.Lines.{are_short}
use Rattle.dump_lines.specs.Listing.{bad, command_of, shape_of, shape_with}
use Rattle.dump_lines.specs.Words.{word_of}
use Rattle.dump_lines.proofs.Keeping.{both_bad, shape_of-five, shape_of-long}

-- a text has no octet, or some
pub some_octet : (text : List ℕ) (none : Bool) → none ≡ (length text == 0) → none ≡ false → 0 < length text
some_octet [] none is some = absurd (true≢false (sym is ∙ some))
some_octet (x ∷ text) none is some = omega arith

-- one more is short too
pub are_short-more : (words : List (List ℕ)) (word : List ℕ) → are_short words ≡ true → length word ≤ 131070
    → are_short (words ++ (word ∷ [])) ≡ true
are_short-more [] word short one = rw (le-leb (length word) 131070 one) refl
are_short-more (first ∷ words) word short one = grind (arith, are_short-more words word)

-- a word after some others is too long, or is a fifth
pub shape_of-too_long : (words : List (List ℕ)) (word : List ℕ) (more : List (List ℕ)) → 131070 < length word
    → shape_of (words ++ (word ∷ more)) ≡ bad
shape_of-too_long words word more long = shape_of-long words word more (lt-leb (length word) 131070 long)

pub shape_of-full : (words : List (List ℕ)) (word : List ℕ) (more : List (List ℕ)) → length words ≡ 4
    → shape_of (words ++ (word ∷ more)) ≡ bad
shape_of-full words word more full =
    ap shape_of (sym (append_assoc words (word ∷ []) more))
    ∙ shape_of-five (words ++ (word ∷ [])) more (omega (arith, full, length-append words (word ∷ [])))

-- a word alone is bad
shape_of-one : (word : List ℕ) → shape_of (word ∷ []) ≡ bad
shape_of-one word = both_bad (are_short (word ∷ []))

module _ {X : Type 0} (now : X → List ℕ) where
  pub shape_of-alone : (xs : List X) → length xs ≡ 1 → shape_of (map now xs) ≡ bad
  shape_of-alone [] one = absurd (omega (arith, one))
  shape_of-alone (a ∷ []) one = shape_of-one (now a)
  shape_of-alone (a ∷ b ∷ xs) one = absurd (omega (arith, one))

  -- a command, the words for it and a packet
  pub shape_of-command : (xs : List X) (x : X) → are_short (map now xs) ≡ true → 2 ≤ length xs
      → shape_of (map now xs)
      ≡ shape_with (command_of (now (get_or xs 0 x)) (map now (take (length xs - 1 - 1) (drop 1 xs))))
      (word_of (now (get_or xs (length xs - 1) x)))
  shape_of-command [] x short two = absurd (omega (arith, two))
  shape_of-command (a ∷ []) x short two = absurd (omega (arith, two))
  shape_of-command (a ∷ b ∷ []) x short two = rw short refl
  shape_of-command (a ∷ b ∷ c ∷ []) x short two = rw short refl
  shape_of-command (a ∷ b ∷ c ∷ d ∷ []) x short two = rw short refl
  shape_of-command (a ∷ b ∷ c ∷ d ∷ e ∷ xs) x short two =
      let many : length (a ∷ b ∷ c ∷ d ∷ e ∷ xs) - 1 - 1 ≡ suc (suc (suc (length xs))) = omega arith in
      rw (many, both_bad (are_short (map now (a ∷ b ∷ c ∷ d ∷ e ∷ xs)))) refl

-- the command of a word, by the words after it
module _ {X : Type 0} (now : X → List ℕ) (word : List ℕ) where
  pub command_of-other : (xs : List X) → length xs ≡ 1 → bytes_eq word (codes "name") ≡ false
      → None ≡ command_of word (map now xs)
  command_of-other [] one other = absurd (omega (arith, one))
  command_of-other (a ∷ []) one other = rw other refl
  command_of-other (a ∷ b ∷ xs) one other = absurd (omega (arith, one))

  pub command_of-many : (xs : List X) → 3 ≤ length xs → None ≡ command_of word (map now xs)
  command_of-many [] many = absurd (omega (arith, many))
  command_of-many (a ∷ []) many = absurd (omega (arith, many))
  command_of-many (a ∷ b ∷ []) many = absurd (omega (arith, many))
  command_of-many (a ∷ b ∷ c ∷ xs) many = refl
