-- A line that is cut after its first word: that word, and those of what follows.
use Rattle.std.proofs.Common.{◌≡◌, ◌≢◌, ℕ, zero, suc, ◌-◌, ◌<◌, ◌≤◌, List, [], ◌∷◌, ◌++◌, All, length, take, drop}
use Rattle.std.proofs.Common.{refl, ap, sym, ◌∙◌, inl, inr, arith, eq-zero-or-pos, take_all, take-append-drop}
use Rattle.std.proofs.Common.{length-drop, length-take-le}
use Rattle.std.proofs.lemmas.List.{append-nil, drop_more, nil_from_length}
use Rattle.std.proofs.lemmas.List.Elements.{All-head, All-tail}
use Rattle.std.specs.Prelude.{slice_index}
use Rattle.dump_lines.specs.Lines.{words_in}
use Rattle.dump_lines.proofs.Parts.{Free, words_in-append, words_in-word}

-- spaces in front are of no word
words_in-spaces : (spaces rest : List ℕ) → All (λ octet. octet ≡ 32) spaces → words_in (spaces ++ rest) ≡ words_in rest
words_in-spaces [] rest are = refl
words_in-spaces (x ∷ spaces) rest are =
    let this : x ≡ 32 = All-head (λ octet. octet ≡ 32) x spaces are in
    rw this (words_in-append [] (spaces ++ rest)
    ∙ words_in-spaces spaces rest (All-tail (λ octet. octet ≡ 32) x spaces are))

-- a word, with a space after it or nothing
words_in-first : (word : List ℕ) (space : ℕ) (rest : List ℕ) → Free word → 0 < length word → space ≡ 32
    → words_in (word ++ (space ∷ rest)) ≡ word ∷ words_in (space ∷ rest)
words_in-first word space rest free some is =
    rw is (words_in-append word rest ∙ ap (λ l. l ++ words_in rest) (words_in-word word free some)
    ∙ ap (λ l. word ∷ l) (sym (words_in-append [] rest)))

words_in-last : (word : List ℕ) → Free word → 0 < length word → words_in (word ++ []) ≡ word ∷ words_in []
words_in-last word free some = ap words_in (append-nil word) ∙ words_in-word word free some

-- the first word of a text that begins with none but it
module _ (text : List ℕ) (n : ℕ) (some : 0 < length text) (first : slice_index text 0 ≢ 32) (within : n ≤ length text)
    (free : Free (take n text)) (ends : n < length text → slice_index text n ≡ 32) where
  word_some : (k : ℕ) → n ≡ k → 0 < k
  word_some zero none = absurd (first (rw none at (ends (omega (arith, none)))))
  word_some (suc k) is = omega arith

  word_length : 0 < length (take n text)
  word_length = omega (arith, word_some n refl, length-take-le n text within)

  rest_cut : (rest : List ℕ) → drop n text ≡ rest → (0 < length rest → slice_index text n ≡ 32)
      → words_in (take n text ++ rest) ≡ take n text ∷ words_in rest
  rest_cut [] is space = words_in-last (take n text) free word_length
  rest_cut (x ∷ rest) is space =
      let more : n < length text = omega (arith, ap length is, length-drop n text) in
      let this : x ≡ 32 = cc (is, drop_more text n 0 more, space (omega arith)) in
      words_in-first (take n text) x rest free word_length this

  word_cut : words_in text ≡ take n text ∷ words_in (drop n text)
  word_cut =
      ap words_in (sym (take-append-drop n text))
      ∙ rest_cut (drop n text) refl (λ more. ends (omega (arith, more, length-drop n text)))

-- what follows some spaces: a word that is cut off, or nothing
module _ (whole : List ℕ) (s : ℕ) (within : s ≤ length whole) (spaces : All (λ octet. octet ≡ 32) (take s whole)) where
  abbrev pub behind : List ℕ
  behind = take (length whole - s) (drop s whole)

  behind_is : behind ≡ drop s whole
  behind_is = take_all (length whole - s) (drop s whole) (omega (arith, length-drop s whole))

  behind_words : words_in whole ≡ words_in behind
  behind_words =
      ap words_in (sym (take-append-drop s whole)) ∙ words_in-spaces (take s whole) (drop s whole) spaces
      ∙ ap words_in (sym behind_is)

  behind_length : length behind ≡ length whole - s
  behind_length = omega (arith, ap length behind_is, length-drop s whole)

  module _ (n : ℕ) (first : s < length whole → slice_index whole s ≢ 32) (in_text : n ≤ length behind)
      (free : Free (take n behind)) (ends : n < length behind → slice_index behind n ≡ 32) where
    first_is : 0 < length behind → slice_index behind 0 ≢ 32
    first_is some is =
        let more : s < length whole = omega (arith, some, behind_length) in
        first more (sym (ap (λ (l : List ℕ). slice_index l 0) (behind_is ∙ drop_more whole s 0 more)) ∙ is)

    pub one_word : 0 < length (take n behind) → words_in whole ≡ take n behind ∷ words_in (drop n behind)
    one_word some =
        let more : 0 < length behind = omega (arith, some, in_text, length-take-le n behind in_text) in
        behind_words ∙ word_cut behind n more (first_is more) in_text free ends

    pub no_word : length (take n behind) ≡ 0 → words_in whole ≡ []
    no_word none = elim (eq-zero-or-pos (length behind)) [
      | inl gone ↦ behind_words ∙ ap words_in (nil_from_length behind gone)
      | inr some ↦ absurd (omega (arith, none, word_length behind n some (first_is some) in_text free ends))
    ]
