-- The parts of a line are taken in turn.
use Rattle.std.proofs.Common.{◌≡◌, ◌≢◌, ℕ, ◌+◌, ◌-◌, ◌<◌, ◌≤◌, Bool, true, false, List, [], ◌∷◌, ◌++◌}
use Rattle.std.proofs.Common.{All, length, take, drop, Option, None, Some, OnSome, IfSome, refl, ap, sym, ◌∙◌, arith}
use Rattle.std.proofs.Common.{append_assoc, length-append, inl, inr, lt-ltb, take_all, length-drop}
use Rattle.std.proofs.Common.{length-take-le, eqb-true}
use Rattle.std.proofs.lemmas.List.{append-nil, nil_from_length}
use Rattle.std.proofs.lemmas.List.Elements.{All-nil, All-head, All-tail, All-append, All-weaker, All-same}
use Rattle.std.proofs.Math.Seq.{take-add}
use Rattle.std.proofs.KnownBytes.{Consumes-nil, Consumes-trans}
use Rattle.std.proofs.BufReadLemmas.{take_through-append, drop_through-append}
use Rattle.std.specs.Prelude.{◌==◌, ◌||◌, ◌⊎◌, nat_lt, if◌then◌else◌}
use Rattle.std.specs.Io.KnownBytes.{Consumes, IsAtEnd}
use Rattle.std.specs.Io.BufRead.{strip_last, take_through, drop_through}
use Rattle.dump_lines.specs.Listing.{Shape, bad, line_shape}
use Rattle.dump_lines.specs.PartialLines.{IsFresh, IsFront, IsKept, NextLine, shape_from}
use Rattle.dump_lines.specs.private.Parts.{Takes, TakesPart}
use Rattle.dump_lines.specs.declared.partial_line.Line.{Line}
use Rattle.dump_lines.proofs.Keeping.{both_bad, spaces_skipped, front_bad, front_more, long_bad}
use Rattle.dump_lines.proofs.Parts.{Free, strip_last-append, strip_last-free}

abbrev pub Spaces : List ℕ → Type 0
Spaces octets = All (λ octet. octet ≡ 32) octets

-- ---- octets that a line takes

pub takes_nothing : (line : Line) (octets : List ℕ) → length octets ≡ 0 → Takes line line octets
takes_nothing line [] none = record { shape = λ rest. refl }
takes_nothing line (x ∷ xs) none = absurd (omega (arith, none))

pub takes_bad : (line : Line) (octets : List ℕ) → line.is_bad ≡ true → Takes line line octets
takes_bad line octets is = record { shape = λ rest. rw is refl }

pub takes_both : (a b c : Line) (first second both : List ℕ) → Takes a b first → Takes b c second
    → both ≡ first ++ second → Takes a c both
takes_both a b c first second both one two is =
    record {
      shape = λ rest. ap (λ l. shape_from a (l ++ rest)) is ∙ ap (shape_from a) (append_assoc first second rest)
          ∙ one.shape (second ++ rest) ∙ two.shape rest;
    }

-- where it is not bad already
shape_or_bad : (b : Bool) (x y : Shape) → x ≡ y → (if b then bad else x) ≡ (if b then bad else y)
shape_or_bad true x y e = refl
shape_or_bad false x y e = e

module _ (line : Line) (is : IsKept line) where
  -- spaces after a space, or in front
  pub takes_spaces : (spaces : List ℕ) → Spaces spaces → line.start ≡ length line.octets.items → Takes line line spaces
  takes_spaces spaces are behind =
      let none : is.word ≡ [] =
      nil_from_length is.word (omega (arith, is.start, behind, ap length is.split, length-append is.front is.word)) in
      let front : line.octets.items ≡ is.front = is.split ∙ ap (λ l. is.front ++ l) none ∙ append-nil is.front in
      record {
        shape = λ rest. shape_or_bad line.is_bad _ _
            (rw front (spaces_skipped is.front line.words is.whole spaces rest are));
      }

  word_some : line.start ≢ length line.octets.items → 0 < length is.word
  word_some more = omega (arith, is.start, more, ap length is.split, length-append is.front is.word)

  front_longer : line.start ≢ length line.octets.items → IsFront (line.octets.items ++ (32 ∷ [])) (line.words + 1)
  front_longer more = rw is.split (front_more is.front line.words is.whole is.word is.free (word_some more))

  spaces_longer : (new : Line) (spaces : List ℕ) → Spaces spaces → length spaces ≢ 0
      → line.start ≢ length line.octets.items
      → ((rest : List ℕ)
      → shape_from new rest ≡ (if line.is_bad then bad else line_shape ((line.octets.items ++ (32 ∷ [])) ++ rest)))
      → Takes line new spaces
  spaces_longer new [] are some more shape = absurd (some refl)
  spaces_longer new (x ∷ spaces) are some more shape = record {
    shape = λ rest. shape_or_bad line.is_bad _ _ (first rest) ∙ sym (shape rest);
  }
    where
      this : x ≡ 32
      this = All-head (λ octet. octet ≡ 32) x spaces are

      rest_are : Spaces spaces
      rest_are = All-tail (λ octet. octet ≡ 32) x spaces are

      first : (rest : List ℕ) → line_shape (line.octets.items ++ ((x ∷ spaces) ++ rest))
          ≡ line_shape ((line.octets.items ++ (32 ∷ [])) ++ rest)
      first rest =
          rw this (ap line_shape (sym (append_assoc line.octets.items (32 ∷ []) (spaces ++ rest)))
          ∙ spaces_skipped (line.octets.items ++ (32 ∷ [])) (line.words + 1) (front_longer more) spaces rest rest_are)

  -- spaces after a word
  pub takes_word_end : (new : Line) (spaces : List ℕ) → Spaces spaces → length spaces ≢ 0
      → line.start ≢ length line.octets.items
      → new.octets.items ≡ line.octets.items ++ (32 ∷ []) → new.is_bad ≡ line.is_bad → Takes line new spaces
  takes_word_end new spaces are some more items same =
      spaces_longer new spaces are some more (λ rest. rw (items, same) refl)

  pub kept_word_end : (new : Line) → line.start ≢ length line.octets.items → line.words ≢ 4
      → new.octets.items ≡ line.octets.items ++ (32 ∷ []) → new.start ≡ length new.octets.items
      → new.words ≡ line.words + 1 → IsKept new
  kept_word_end new more few items start words = record {
    front = line.octets.items ++ (32 ∷ []);
    word = [];
    split = items ∙ sym (append-nil _);
    start = start ∙ ap length items;
    whole = rw words (front_longer more);
    free = All-nil (λ octet. octet ≢ 32);
    few = omega (arith, is.few, few, words);
    short = omega arith;
    packet_buffer = omega (
      arith,
      words,
      is.packet_buffer,
      is.short,
      ap length is.split,
      length-append is.front is.word,
      length-append line.octets.items (32 ∷ []),
    );
  }

  -- spaces after one word more than a line may have
  pub takes_many : (new : Line) (spaces : List ℕ) → Spaces spaces → length spaces ≢ 0
      → line.start ≢ length line.octets.items
      → line.words ≡ 4 → new.is_bad ≡ true → Takes line new spaces
  takes_many new spaces are some more four is_bad = spaces_longer new spaces are some more (λ rest. bad_anyway rest)
    where
      bad_anyway : (rest : List ℕ)
          → shape_from new rest ≡ (if line.is_bad then bad else line_shape ((line.octets.items ++ (32 ∷ [])) ++ rest))
      bad_anyway rest =
          rw (
            is_bad,
            front_bad (line.octets.items ++ (32 ∷ [])) (line.words + 1) (front_longer more)
                (omega (arith, four)) rest,
          ) (sym (both_bad line.is_bad))

  -- a part of a word that gets too long
  pub takes_long : (new : Line) (part : List ℕ) → Free part → 131071 -
      (length line.octets.items - line.start) < length part → new.is_bad ≡ true → Takes line new part
  takes_long new part free long is_bad =
      record { shape = λ rest. shape_or_bad line.is_bad _ _ (here rest) ∙ both_bad line.is_bad ∙ sym (there rest) }
    where
      there : (rest : List ℕ) → shape_from new rest ≡ bad
      there rest = rw is_bad refl

      here : (rest : List ℕ) → line_shape (line.octets.items ++ (part ++ rest)) ≡ bad
      here rest =
          let all : line.octets.items ++ (part ++ rest) ≡ is.front ++ ((is.word ++ part) ++ rest) =
          ap (λ l. l ++ (part ++ rest)) is.split ∙ append_assoc is.front is.word (part ++ rest)
          ∙ ap (λ l. is.front ++ l) (sym (append_assoc is.word part rest)) in
          let too_long : 131071 < length (is.word ++ part) =
          omega (
            arith,
            long,
            is.short,
            is.start,
            ap length is.split,
            length-append is.front is.word,
            length-append is.word part,
          ) in
          ap line_shape all ∙ long_bad is.front line.words is.whole (is.word ++ part) rest
          (All-append (λ octet. octet ≢ 32) is.word part is.free free) too_long

  pub kept_longer : (new : Line) (part : List ℕ) → Free part
      → length part ≤ 131071 - (length line.octets.items - line.start)
      → new.octets.items ≡ line.octets.items ++ part → new.start ≡ line.start → new.words ≡ line.words → IsKept new
  kept_longer new part free fits items start words = record {
    front = is.front;
    word = is.word ++ part;
    split = items ∙ ap (λ l. l ++ part) is.split ∙ append_assoc is.front is.word part;
    start = start ∙ is.start;
    whole = rw words is.whole;
    free = All-append (λ octet. octet ≢ 32) is.word part is.free free;
    few = omega (arith, is.few, words);
    short = omega (
      arith,
      fits,
      is.short,
      is.start,
      ap length is.split,
      length-append is.front is.word,
      length-append is.word part,
    );
    packet_buffer = omega (arith, is.packet_buffer, words);
  }

-- ---- parts of a line

-- as far as a line is read
pub record ReadsLine (a b : Option (List ℕ)) (fresh line : Line) (begun : Bool) : Type 0 where
  pub done : List ℕ
  pub takes : Takes fresh line done
  pub free : All (λ octet. octet ≢ 10) done
  pub consumed : Consumes a b done
  pub begun_is : begun ≡ nat_lt 0 (length done)

pub reads_nothing : (a : Option (List ℕ)) (line : Line) → ReadsLine a a line line false
reads_nothing a line =
    record {
      done = [];
      takes = takes_nothing line [] refl;
      free = All-nil (λ octet. octet ≢ 10);
      consumed = Consumes-nil a;
      begun_is = refl;
    }

begun_more : (done part : List ℕ) → nat_lt 0 (length done) || nat_lt 0 (length part) ≡ nat_lt 0 (length (done ++ part))
begun_more [] part = refl
begun_more (x ∷ done) part =
    rw (lt-ltb 0 (length (x ∷ done)) (omega arith), lt-ltb 0 (length ((x ∷ done) ++ part)) (omega arith)) refl

pub reads_more : (a b c : Option (List ℕ)) (fresh line new : Line) (begun : Bool) (count : ℕ)
    → ReadsLine a b fresh line begun → TakesPart b c line new count false
    → ReadsLine a c fresh new (begun || nat_lt 0 count)
reads_more a b c fresh line new begun count reads part =
    let whole : part.text ++ part.last ≡ part.text =
    ap (λ l. part.text ++ l) (part.goes_on refl) ∙ append-nil part.text in
    record {
      done = reads.done ++ part.text;
      takes = takes_both fresh line new reads.done part.text _ reads.takes part.takes refl;
      free = All-append (λ octet. octet ≢ 10) reads.done part.text reads.free part.free;
      consumed = Consumes-trans a b c reads.done part.text reads.consumed (rw whole at part.consumed);
      begun_is = rw (reads.begun_is, part.counted, whole) (begun_more reads.done part.text);
    }

-- a line that is read
pub lf_ends : (line rest : List ℕ) → All (λ octet. octet ≢ 10) line
    → (strip_last 10 (take_through 10 (line ++ (10 ∷ rest))) ≡ line) × (drop_through 10 (line ++ (10 ∷ rest)) ≡ rest)
lf_ends line rest free = (
  ap (strip_last 10) (take_through-append 10 line (10 ∷ rest) free) ∙ strip_last-append 10 line 10 [] ∙ append-nil line,
  drop_through-append 10 line (10 ∷ rest) free,
)

input_ends : (line : List ℕ) → All (λ octet. octet ≢ 10) line
    → (strip_last 10 (take_through 10 line) ≡ line) × (drop_through 10 line ≡ [])
input_ends line free = (
  ap (λ l. strip_last 10 (take_through 10 l)) (sym (append-nil line))
      ∙ ap (strip_last 10) (take_through-append 10 line [] free ∙ append-nil line) ∙ strip_last-free 10 line free,
  ap (drop_through 10) (sym (append-nil line)) ∙ drop_through-append 10 line [] free,
)

shape_read : (fresh line : Line) (octets : List ℕ) → IsFresh fresh → Takes fresh line octets
    → shape_from line [] ≡ line_shape octets
shape_read fresh line octets is takes =
    sym (takes.shape []) ∙ is.shape (octets ++ []) ∙ ap line_shape (append-nil octets)

pub line_read : (a b c : Option (List ℕ)) (fresh line new : Line) (begun : Bool) (count : ℕ) → IsFresh fresh
    → ReadsLine a b fresh line begun → TakesPart b c line new count true
    → IfSome a (λ octets. NextLine octets c new (begun || nat_lt 0 count))
line_read None b c fresh line new begun count is reads part = tt
line_read (Some octets) None c fresh line new begun count is reads part = absurd reads.consumed
line_read (Some octets) (Some left) None fresh line new begun count is reads part = absurd part.consumed
line_read (Some octets) (Some left) (Some rest) fresh line new begun count is reads part = at (part.ends refl)
  where
    text : List ℕ
    text = reads.done ++ part.text

    free : All (λ octet. octet ≢ 10) text
    free = All-append (λ octet. octet ≢ 10) reads.done part.text reads.free part.free

    whole : octets ≡ reads.done ++ ((part.text ++ part.last) ++ rest)
    whole = reads.consumed ∙ ap (λ l. reads.done ++ l) part.consumed

    shape : shape_from new [] ≡ line_shape text
    shape = shape_read fresh new text is
        (takes_both fresh line new reads.done part.text text reads.takes part.takes refl)

    begun_is : begun || nat_lt 0 count ≡ nat_lt 0 (length (reads.done ++ (part.text ++ part.last)))
    begun_is = rw (reads.begun_is, part.counted) (begun_more reads.done (part.text ++ part.last))

    ended : (octets : List ℕ) (b : Bool) → b ≡ nat_lt 0 (length octets) → shape_from new [] ≡ line_shape octets
        → All (λ octet. octet ≢ 10) octets
        → NextLine octets (Some []) new b
    ended [] b b_is shape free = rw b_is refl
    ended (x ∷ xs) b b_is shape free =
        let line = input_ends (x ∷ xs) free in
        rw (b_is, lt-ltb 0 (length (x ∷ xs)) (omega arith))
        (λ e. absurd (cc e), shape ∙ ap line_shape (sym line.0), ap Some (sym line.1))

    at : (part.last ≡ 10 ∷ []) ⊎ ((part.text ++ part.last ≡ []) × OnSome (Some left) (IsAtEnd (Some rest)))
        → NextLine octets (Some rest) new (begun || nat_lt 0 count)
    at (inl lf) =
        let all : octets ≡ text ++ (10 ∷ rest) = whole ∙ ap (λ l. reads.done ++ ((part.text ++ l) ++ rest)) lf
        ∙ ap (λ l. reads.done ++ l) (append_assoc part.text (10 ∷ []) rest)
        ∙ sym (append_assoc reads.done part.text (10 ∷ rest)) in
        let line = lf_ends text rest free in
        let some : 0 < length (reads.done ++ (part.text ++ part.last)) =
        omega (
          arith,
          ap length lf,
          length-append reads.done (part.text ++ part.last),
          length-append part.text part.last,
        ) in
        rw (begun_is, lt-ltb 0 (length (reads.done ++ (part.text ++ part.last))) some) (
          λ e. absurd (cc (sym all ∙ e)),
          shape ∙ ap line_shape (sym line.0 ∙ ap (λ l. strip_last 10 (take_through 10 l)) (sym all)),
          ap Some (sym line.1 ∙ ap (drop_through 10) (sym all)),
        )
    at (inr none) =
        let rest_none : rest ≡ [] = none.1 in
        let part_none : part.text ≡ [] =
        nil_from_length part.text (omega (arith, ap length none.0, length-append part.text part.last)) in
        let all : octets ≡ text =
        whole ∙ ap (λ l. reads.done ++ (l ++ rest)) none.0
        ∙ ap (λ l. reads.done ++ l) (rest_none ∙ sym part_none) in
        let read : octets ≡ reads.done ++ (part.text ++ part.last) =
        all ∙ ap (λ l. reads.done ++ l) (part_none ∙ sym none.0) in
        rw rest_none
        (ended octets _ (begun_is ∙ ap (λ l. nat_lt 0 (length l)) (sym read)) (shape ∙ ap line_shape (sym all))
        (All-same (λ octet. octet ≢ 10) octets text all free))

-- ---- what was buffered

-- spaces and what follows them, of buffered octets
module _ (shown : List ℕ) (s n : ℕ) (in_shown : s ≤ length shown)
    (in_rest : n ≤ length (take (length shown - s) (drop s shown))) where
  rest_is : take (length shown - s) (drop s shown) ≡ drop s shown
  rest_is = take_all (length shown - s) (drop s shown) (omega (arith, length-drop s shown))

  both_is : take (s + n) shown ≡ take s shown ++ take n (drop s shown)
  both_is = take-add s n shown

  pub front_takes : (line mid new : Line) → Takes line mid (take s shown)
      → Takes mid new (take (s + n - s) (drop s shown)) → Takes line new (take (s + n) shown)
  front_takes line mid new first second =
      let same : s + n - s ≡ n = omega arith in
      takes_both line mid new (take s shown) (take n (drop s shown)) (take (s + n) shown) first
      (rw same at second) both_is

  pub front_free : Spaces (take s shown) → All (λ octet. octet ≢ 10) (take n (take (length shown - s) (drop s shown)))
      → All (λ octet. octet ≢ 10) (take (s + n) shown)
  front_free spaces free =
      All-same (λ octet. octet ≢ 10) (take (s + n) shown) (take s shown ++ take n (drop s shown)) both_is
      (All-append (λ octet. octet ≢ 10) (take s shown) (take n (drop s shown))
      (All-weaker (λ octet. octet ≡ 32) (λ octet. octet ≢ 10) (λ octet is. omega (arith, is)) (take s shown) spaces)
      (rw rest_is at free))

  pub word_free : Free (take n (take (length shown - s) (drop s shown))) → Free (take (s + n - s) (drop s shown))
  word_free free =
      let same : s + n - s ≡ n = omega arith in
      rw same (rw rest_is at free)

-- octets of a line before the buffered ones, whatever is consumed
module _ (line new : Line) (shown : List ℕ) (n : ℕ) (within : n ≤ length shown) (takes : Takes line new (take n shown))
    (free : All (λ octet. octet ≢ 10) (take n shown)) (a b : Option (List ℕ)) where
  pub part_front : (empty : Bool) → empty ≡ (length shown == 0) → Consumes a b (take n shown)
      → (length shown ≡ 0 → OnSome a (IsAtEnd b)) → TakesPart a b line new n empty
  part_front empty is consumed at_end =
      record {
        text = take n shown;
        last = [];
        takes = takes;
        free = free;
        consumed = rw append-nil consumed;
        counted = sym (length-take-le n shown within) ∙ ap length (sym (append-nil (take n shown)));
        goes_on = λ _. refl;
        ends = λ e.
            let none : length shown ≡ 0 = eqb-true _ _ (sym is ∙ e) in
            inr (
              nil_from_length (take n shown ++ [])
                  (omega (
                    arith,
                    none,
                    within,
                    length-take-le n shown within,
                    length-append (take n shown) [],
                  )),
              at_end none,
            );
      }
