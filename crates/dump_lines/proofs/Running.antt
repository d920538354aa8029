-- The lines of an input, one after another, and what they print.
use Rattle.std.proofs.Common.{◌≡◌, ◌≢◌, ℕ, suc, Bool, true, false, List, [], ◌∷◌, ◌++◌, length}
use Rattle.std.proofs.Common.{Option, None, Some, IfSome, refl, ap, sym, ◌∙◌, append_assoc}
use Rattle.std.proofs.Math.Bool.{and-true, and_assoc}
use Rattle.std.proofs.lemmas.List.{append-nil}
use Rattle.std.specs.Prelude.{◌==◌, ◌&&◌, if◌then◌else◌, map}
use Rattle.std.specs.Io.BufRead.{take_through, drop_through, strip_last}
use Rattle.std.specs.Io.KnownBytes.{Keeps}
use Rattle.dump_lines.specs.Lines.{before_first}
use Rattle.dump_lines.specs.BufferedLines.{IsFirst}
use Rattle.dump_lines.specs.private.Parts.{ShowsFirst}
use Rattle.dump_lines.proofs.Parts.{strip_last-more}
use Rattle.dump_lines.specs.Listing.{Shape, line_shape, lines_of, shapes_of, is_known, are_known, LinePrints}
use Rattle.dump_lines.specs.Listing.{LinesPrint}
use Rattle.packet_fields.specs.Output.{Gains, GainsSome}
use Rattle.packet_fields.proofs.Printing.{gains_none, gains_both}

take_through-some : (x : ℕ) (xs : List ℕ) → (n : ℕ) × (length (take_through 10 (x ∷ xs)) ≡ suc n)
take_through-some x xs =
    elim (x == 10) as (λ ends. (n : ℕ) × (length (if ends then x ∷ [] else x ∷ take_through 10 xs) ≡ suc n)) [
      | true ↦
          (0, refl)
      | false ↦ (length (take_through 10 xs), refl)
    ]

-- the first line, and those after it
first_alone : (ends : Bool) (x : ℕ) → (x == 10) ≡ ends
    → (if ends then [] ∷ [] else before_first x []) ≡ strip_last 10 (if ends then x ∷ [] else x ∷ [])
    ∷ lines_of (if ends then [] else [])
first_alone true x is = rw is refl
first_alone false x is = rw is refl

first_of : (ends : Bool) (x : ℕ) (xs : List ℕ) → (x == 10) ≡ ends
    → strip_last 10 (x ∷ take_through 10 xs) ≡ x ∷ strip_last 10 (take_through 10 xs)
    → lines_of xs ≡ strip_last 10 (take_through 10 xs) ∷ lines_of (drop_through 10 xs)
    → (if ends then [] ∷ lines_of xs else before_first x (lines_of xs))
    ≡ strip_last 10 (if ends then x ∷ [] else x ∷ take_through 10 xs)
    ∷ lines_of (if ends then xs else drop_through 10 xs)
first_of true x xs is strip cut = rw is refl
first_of false x xs is strip cut = rw (strip, cut) refl

lines_of-first : (x : ℕ) (xs : List ℕ) → lines_of (x ∷ xs) ≡ strip_last 10 (take_through 10 (x ∷ xs))
    ∷ lines_of (drop_through 10 (x ∷ xs))
lines_of-first x [] = first_alone (x == 10) x refl
lines_of-first x (y ∷ ys) =
    let some = take_through-some y ys in
    first_of (x == 10) x (y ∷ ys) refl (strip_last-more 10 x (take_through 10 (y ∷ ys)) some.0 some.1)
    (lines_of-first y ys)

shapes_of-first : (xs : List ℕ) → xs ≢ [] → shapes_of xs ≡ line_shape (strip_last 10 (take_through 10 xs))
    ∷ shapes_of (drop_through 10 xs)
shapes_of-first [] some = absurd (some refl)
shapes_of-first (x ∷ xs) some = ap (map line_shape) (lines_of-first x xs)

-- a line more
are_known-more : (shapes : List Shape) (shape : Shape) → are_known (shapes ++ (shape ∷ []))
    ≡ are_known shapes && is_known shape
are_known-more [] shape = and-true (is_known shape)
are_known-more (other ∷ shapes) shape =
    rw (are_known-more shapes shape) (sym (and_assoc (is_known other) (are_known shapes) (is_known shape)))

LinesPrint-more : (shapes : List Shape) (shape : Shape) (text first : List ℕ) → LinesPrint shapes text
    → LinePrints shape first → LinesPrint (shapes ++ (shape ∷ [])) (text ++ first)
LinesPrint-more [] shape text first print prints = (first, [], prints, refl, rw print (sym (append-nil first)))
LinesPrint-more (other ∷ shapes) shape text first (mine, more, this, rest, e) prints = (
  mine,
  more ++ first,
  this,
  LinesPrint-more shapes shape more first rest prints,
  rw e (append_assoc mine more first),
)

-- what is written out gains nothing, and what is gained after that is all that is
pub gains_kept : (a b : Option (List ℕ)) → Keeps a b → Gains a b []
gains_kept None b kept = record { appends = tt }
gains_kept (Some xs) None kept = absurd kept
gains_kept (Some xs) (Some ys) kept = record { appends = kept ∙ sym (append-nil xs) }

pub gains_behind : (a b c : Option (List ℕ)) (IsText : List ℕ → Type 0) → Gains a b [] → GainsSome b c IsText
    → GainsSome a c IsText
gains_behind a b c IsText none (text, is, gains) = (text, is, gains_both a b c [] text none gains)

-- how far a run has come: what it has read of all that there was, and what it has printed
pub record SoFar (all : List ℕ) (left : Option (List ℕ)) (known : Bool) (before now : Option (List ℕ)) : Type 0 where
  pub rest : List ℕ
  pub done : List Shape
  pub left_is : left ≡ Some rest
  pub cut : shapes_of all ≡ done ++ shapes_of rest
  pub known_is : known ≡ are_known done
  pub printed : GainsSome before now (LinesPrint done)

pub so_far-init : (left before : Option (List ℕ)) → IfSome left (λ all. SoFar all left true before before)
so_far-init None before = tt
so_far-init (Some all) before =
    record {
      rest = all;
      done = [];
      left_is = refl;
      cut = refl;
      known_is = refl;
      printed = ([], refl, gains_none before);
    }

-- a line that is read and printed, and the end
module _ (all : List ℕ) (left : Option (List ℕ)) (known : Bool) (before now : Option (List ℕ))
    (so_far : SoFar all left known before now) where
  so_far-shape : (behind last : Option (List ℕ)) (shape : Shape) (is : Bool) → IsFirst so_far.rest behind shape
      → is ≡ is_known shape → GainsSome now last (LinePrints shape) → SoFar all behind (known && is) before last
  so_far-shape behind last shape is read named shows =
      let first = rw (← read.1) at (shapes_of-first so_far.rest read.0) in
      record {
        rest = drop_through 10 so_far.rest;
        done = so_far.done ++ (shape ∷ []);
        left_is = read.2;
        cut = so_far.cut ∙ ap (λ shapes. so_far.done ++ shapes) first ∙ sym (append_assoc so_far.done (shape ∷ []) _);
        known_is = rw (so_far.known_is, named) (sym (are_known-more so_far.done shape));
        printed = (
          so_far.printed.0 ++ shows.0,
          LinesPrint-more so_far.done shape _ _ so_far.printed.1 shows.1,
          gains_both _ _ _ _ _ so_far.printed.2 shows.2,
        );
      }

  so_far-more : (behind last : Option (List ℕ)) (is : Bool)
      → IfSome left (λ octets. ShowsFirst octets behind now last (Some is))
      → SoFar all behind (known && is) before last
  so_far-more behind last is next =
      let shown = rw so_far.left_is at next in
      so_far-shape behind last shown.0 is shown.1 shown.2 shown.3

  so_far-end : (last : Option (List ℕ)) → IfSome left (λ octets. (octets ≡ []) × Gains now last [])
      → (known ≡ are_known (shapes_of all)) × GainsSome before last (LinesPrint (shapes_of all))
  so_far-end last next =
      let none = rw so_far.left_is at next in
      let all_done : shapes_of all ≡ so_far.done =
      so_far.cut ∙ ap (λ rest. so_far.done ++ shapes_of rest) none.0 ∙ append-nil so_far.done in
      let printed : GainsSome before last (LinesPrint so_far.done) = (
        so_far.printed.0 ++ [],
        rw (append-nil so_far.printed.0) so_far.printed.1,
        gains_both _ _ _ _ _ so_far.printed.2 none.1,
      ) in
      (so_far.known_is ∙ ap are_known (sym all_done), rw all_done printed)

-- a run where what there was may not be known
pub run-more : (first left behind before now last : Option (List ℕ)) (known is : Bool)
    → IfSome first (λ all. SoFar all left known before now)
    → IfSome left (λ octets. ShowsFirst octets behind now last (Some is))
    → IfSome first (λ all. SoFar all behind (known && is) before last)
run-more None left behind before now last known is so_far next = tt
run-more (Some all) left behind before now last known is so_far next =
    so_far-more all left known before now so_far behind last is next

pub run-known : (first left before now last : Option (List ℕ)) (known : Bool)
    → IfSome first (λ all. SoFar all left known before now)
    → IfSome left (λ octets. (octets ≡ []) × Gains now last [])
    → IfSome first (λ all. known ≡ are_known (shapes_of all))
run-known None left before now last known so_far next = tt
run-known (Some all) left before now last known so_far next =
    (so_far-end all left known before now so_far last next).0

pub run-printed : (first left before now last : Option (List ℕ)) (known : Bool)
    → IfSome first (λ all. SoFar all left known before now)
    → IfSome left (λ octets. (octets ≡ []) × Gains now last [])
    → IfSome first (λ all. GainsSome before last (LinesPrint (shapes_of all)))
run-printed None left before now last known so_far next = tt
run-printed (Some all) left before now last known so_far next =
    (so_far-end all left known before now so_far last next).1
