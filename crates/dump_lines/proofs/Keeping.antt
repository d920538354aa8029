-- What is kept of a line has the line's shape, whatever follows.
use Rattle.std.proofs.Common.{◌≡◌, ◌≢◌, ℕ, ◌+◌, ◌<◌, Bool, true, false, List, [], ◌∷◌, ◌++◌, All, length}
use Rattle.std.proofs.Common.{refl, ap, sym, ◌∙◌, arith, append_assoc, length-append}
use Rattle.std.proofs.lemmas.Bool.{and_right, lt-leb}
use Rattle.std.proofs.lemmas.List.{append-nil}
use Rattle.std.proofs.lemmas.List.Elements.{All-head, All-tail}
use Rattle.std.specs.Prelude.{nat_le, if◌then◌else◌}
use Rattle.std.specs.Io.BufRead.{strip_last}
use Rattle.dump_lines.specs.Lines.{are_short, words_in}
use Rattle.dump_lines.specs.Listing.{bad, shape_of, line_shape}
use Rattle.dump_lines.specs.PartialLines.{IsFront}
use Rattle.dump_lines.proofs.Parts.{Free, strip_last-append, length-strip_last, All-strip_last}
use Rattle.dump_lines.proofs.Parts.{words_in-append, words_in-free, words_in-word}

-- ---- shapes that are bad

pub both_bad : (b : Bool) → (if b then bad else bad) ≡ bad
both_bad true = refl
both_bad false = refl

-- five words
pub shape_of-five : (words more : List (List ℕ)) → length words ≡ 5 → shape_of (words ++ more) ≡ bad
shape_of-five (a ∷ b ∷ c ∷ d ∷ e ∷ []) more five = both_bad (are_short ((a ∷ b ∷ c ∷ d ∷ e ∷ []) ++ more))
shape_of-five [] more five = absurd (omega (arith, five))
shape_of-five (a ∷ []) more five = absurd (omega (arith, five))
shape_of-five (a ∷ b ∷ []) more five = absurd (omega (arith, five))
shape_of-five (a ∷ b ∷ c ∷ []) more five = absurd (omega (arith, five))
shape_of-five (a ∷ b ∷ c ∷ d ∷ []) more five = absurd (omega (arith, five))
shape_of-five (a ∷ b ∷ c ∷ d ∷ e ∷ f ∷ words) more five = absurd (omega (arith, five))

-- a word that is too long
are_short-long : (words : List (List ℕ)) (word : List ℕ) (more : List (List ℕ)) → nat_le (length word) 131070 ≡ false
    → are_short (words ++ (word ∷ more)) ≡ false
are_short-long [] word more long = rw long refl
are_short-long (first ∷ words) word more long =
    and_right (nat_le (length first) 131070) _ (are_short-long words word more long)

pub shape_of-long : (words : List (List ℕ)) (word : List ℕ) (more : List (List ℕ)) → nat_le (length word) 131070 ≡ false
    → shape_of (words ++ (word ∷ more)) ≡ bad
shape_of-long words word more long = rw (are_short-long words word more long) refl

-- ---- what follows a front

module _ (front : List ℕ) (n : ℕ) (is : IsFront front n) where
  -- its words, and then those of what follows, less the CR at the end
  words_in-front : (y : ℕ) (ys : List ℕ) → words_in (strip_last 13 (front ++ (y ∷ ys))) ≡ is.words
      ++ words_in (strip_last 13 (y ∷ ys))
  words_in-front y ys = ap words_in (strip_last-append 13 front y ys) ∙ is.followed (strip_last 13 (y ∷ ys))

  words_in-end : words_in (strip_last 13 (front ++ [])) ≡ is.words ++ []
  words_in-end =
      ap (λ l. words_in (strip_last 13 l)) (append-nil front) ∙ ap words_in (is.no_end ∙ sym (append-nil front))
      ∙ is.followed []

  -- a space is skipped
  space_skipped : (rest : List ℕ) → line_shape (front ++ (32 ∷ rest)) ≡ line_shape (front ++ rest)
  space_skipped [] = ap shape_of (words_in-front 32 [] ∙ sym words_in-end)
  space_skipped (y ∷ ys) =
      let skipped = ap (λ l. is.words ++ words_in l) (strip_last-append 13 (32 ∷ []) y ys) in
      ap shape_of (words_in-front 32 (y ∷ ys) ∙ skipped ∙ sym (words_in-front y ys))

  pub spaces_skipped : (spaces rest : List ℕ) → All (λ octet. octet ≡ 32) spaces
      → line_shape (front ++ (spaces ++ rest)) ≡ line_shape (front ++ rest)
  spaces_skipped [] rest are = refl
  spaces_skipped (x ∷ spaces) rest are =
      let this : x ≡ 32 = All-head (λ octet. octet ≡ 32) x spaces are in
      rw this (space_skipped (spaces ++ rest) ∙ spaces_skipped spaces rest
      (All-tail (λ octet. octet ≡ 32) x spaces are))

  -- with five words it is bad
  pub front_bad : n ≡ 5 → (rest : List ℕ) → line_shape (front ++ rest) ≡ bad
  front_bad five [] = ap shape_of words_in-end ∙ shape_of-five is.words [] (is.count ∙ five)
  front_bad five (y ∷ ys) = ap shape_of (words_in-front y ys) ∙ shape_of-five is.words _ (is.count ∙ five)

  -- a word with a space after it makes a longer front
  pub front_more : (word : List ℕ) → Free word → 0 < length word → IsFront ((front ++ word) ++ (32 ∷ [])) (n + 1)
  front_more word free some = record {
    words = is.words ++ (word ∷ []);
    count = omega (arith, is.count, length-append is.words (word ∷ []));
    followed = λ rest. ap words_in (append_assoc (front ++ word) (32 ∷ []) rest ∙ append_assoc front word (32 ∷ rest))
        ∙ is.followed (word ++ (32 ∷ rest))
        ∙ ap (λ l. is.words ++ l)
        (words_in-append word rest ∙ ap (λ l. l ++ words_in rest) (words_in-word word free some))
        ∙ sym (append_assoc is.words (word ∷ []) (words_in rest));
    no_end = strip_last-append 13 (front ++ word) 32 [];
  }

  -- after it, a word that is too long even without a CR
  long_word : (word rest : List ℕ) → Free word → 131071 < length word
      → (first : List ℕ) × (more : List (List ℕ))
      × (words_in (strip_last 13 (front ++ (word ++ rest))) ≡ is.words ++ (first ∷ more)) × (131070 < length first)
  long_word [] rest free long = absurd (omega (arith, long))
  long_word (x ∷ xs) [] free long =
      let word = x ∷ xs in
      let whole = append-nil word in
      let first = strip_last 13 word in
      let shorter : 131070 < length first = omega (arith, long, length-strip_last 13 word) in
      let first_free = All-strip_last (λ octet. octet ≢ 32) 13 word free in (
        first,
        [],
        ap (λ l. words_in (strip_last 13 (front ++ l))) whole ∙ words_in-front x xs
            ∙ ap (λ l. is.words ++ l) (words_in-word first first_free (omega (arith, shorter))),
        shorter,
      )
  long_word (x ∷ xs) (y ∷ ys) free long =
      let word = x ∷ xs in
      let words = words_in-free word (strip_last 13 (y ∷ ys)) free (omega arith) in (
        word ++ words.0,
        words.1,
        words_in-front x (xs ++ (y ∷ ys))
            ∙ ap (λ l. is.words ++ words_in l) (strip_last-append 13 word y ys) ∙ ap (λ l. is.words ++ l) words.2,
        omega (arith, long, length-append word words.0),
      )

  pub long_bad : (word rest : List ℕ) → Free word → 131071 < length word → line_shape (front ++ (word ++ rest)) ≡ bad
  long_bad word rest free long =
      let found = long_word word rest free long in
      ap shape_of found.2 ∙ shape_of-long is.words found.0 found.1 (lt-leb (length found.0) 131070 found.3)
