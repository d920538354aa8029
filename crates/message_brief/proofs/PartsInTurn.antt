-- Parts in turn: options, and records.
use Rattle.std.proofs.Common.{◌≡◌, ◌∙◌, ◌+◌, ◌-◌, ◌≤◌, ◌<◌, [], ◌∷◌, ◌++◌, Bool, List, Some, ap, append_assoc}
use Rattle.std.proofs.Common.{arith, drop, false, length, refl}
use Rattle.std.proofs.Common.{suc, sym, take, true, zero, ℕ}
use Rattle.std.proofs.lemmas.Bool.{eqb-true}
use Rattle.std.proofs.lemmas.List.{length-drop}
use Rattle.std.proofs.lemmas.List.Sums.{sum_by-cons}
use Rattle.std.specs.List.{list_all}
use Rattle.std.specs.Prelude.{◌==◌, ◌&&◌, cond, count_by, find}
use Rattle.packet_fields.specs.Parts.{parts}
use Rattle.packet_fields.proofs.PartsInTurn.{enough, first_part}
use Rattle.neighbor_fields.specs.Ndisc.{option_len}
use Rattle.neighbor_fields.specs.Records.{record_len}
use Rattle.message_brief.specs.Groups.{are_whole, is_whole_record, missing}
use Rattle.message_brief.specs.Neighbors.{options_in}

-- the first part, and as many others as there are
next_part : (len : List ℕ → ℕ) → ((bytes : List ℕ) → 1 ≤ length bytes → 1 ≤ len bytes) → (bytes part others : List ℕ)
    → 0 < length bytes → part ≡ take (len bytes) bytes → others ≡ drop (len bytes) bytes
    → parts len (length bytes) bytes ≡ part ∷ parts len (length others) others
next_part len some [] part others any part_is others_is = absurd (omega (arith, any))
next_part len some (b ∷ bs) part others any part_is others_is =
    let one = some (b ∷ bs) (omega arith) in
    let fewer = length-drop (len (b ∷ bs)) (b ∷ bs) in
    let count : length others ≡ length (b ∷ bs) - len (b ∷ bs) = ap length others_is ∙ fewer in
    first_part len (length (b ∷ bs)) (b ∷ bs) part others any any part_is others_is
    ∙ ap (λ more. part ∷ more)
    (enough len some (length (b ∷ bs) - 1) (length others) others (omega (arith, count)) (omega arith))

some_octets : (bytes : List ℕ) → 1 ≤ length bytes → 1 ≤ option_len bytes
some_octets bytes any = grind arith

pub next_option : (bytes option others : List ℕ) → 0 < length bytes → option ≡ take (option_len bytes) bytes
    → others ≡ drop (option_len bytes) bytes → options_in bytes ≡ option ∷ options_in others
next_option bytes option others = next_part option_len some_octets bytes option others

pub no_options : (bytes : List ℕ) → (length bytes == 0) ≡ true → options_in bytes ≡ []
no_options [] none = refl
no_options (b ∷ bs) none = absurd (omega (arith, eqb-true (length (b ∷ bs)) 0 none))

-- what a list gives with one element before it
module _ {X : Type 0} (p : X → Bool) where
  pub find-here : (x : X) (xs : List X) → p x ≡ true → find p (x ∷ xs) ≡ Some x
  find-here x xs is = rw is refl

  pub find-behind : (x : X) (xs : List X) → p x ≡ false → find p (x ∷ xs) ≡ find p xs
  find-behind x xs is = rw is refl

  pub count-here : (x : X) (xs : List X) → p x ≡ true → count_by p (x ∷ xs) ≡ 1 + count_by p xs
  count-here x xs is = sum_by-cons (λ y. cond (p y) 1 0) x xs ∙ ap (λ b. cond b 1 0 + count_by p xs) is

  pub count-behind : (x : X) (xs : List X) → p x ≡ false → count_by p (x ∷ xs) ≡ count_by p xs
  count-behind x xs is =
      let none : 0 + count_by p xs ≡ count_by p xs = omega arith in
      sum_by-cons (λ y. cond (p y) 1 0) x xs ∙ ap (λ b. cond b 1 0 + count_by p xs) is ∙ none

  pub all-here : (x : X) (xs : List X) → p x ≡ false → list_all p (x ∷ xs) ≡ false
  all-here x xs is = rw is refl

  pub all-behind : (x : X) (xs : List X) → p x ≡ true → list_all p (x ∷ xs) ≡ list_all p xs
  all-behind x xs is = rw is refl

-- a text that is put after others
pub one_more : (done one rest left all : List ℕ) → done ++ left ≡ all → left ≡ one ++ rest → (done ++ one) ++ rest ≡ all
one_more done one rest left all is parts =
    append_assoc done one rest ∙ ap (λ more. done ++ more) (sym parts) ∙ is

and-false : (b : Bool) → (b && false) ≡ false
and-false true = refl
and-false false = refl

-- behind the first part as many are missing
missing_first : (len : List ℕ → ℕ) (count : ℕ) (bytes others : List ℕ) → 0 < count → 0 < length bytes
    → others ≡ drop (len bytes) bytes → missing len count bytes ≡ missing len (count - 1) others
missing_first len zero bytes others some any others_is = absurd (omega (arith, some))
missing_first len (suc count) [] others some any others_is = absurd (omega (arith, any))
missing_first len (suc count) (b ∷ bs) others some any others_is =
    let e : suc count - 1 ≡ count = omega arith in rw (others_is, e) refl

-- records, of which the first is whole, or cut
module _ (width count : ℕ) (bytes first others : List ℕ) (some : 0 < count) (any : 0 < length bytes)
    (first_is : first ≡ take (record_len width bytes) bytes)
    (others_is : others ≡ drop (record_len width bytes) bytes) where
  pub next_record : parts (record_len width) count bytes ≡ first ∷ parts (record_len width) (count - 1) others
  next_record = first_part (record_len width) count bytes first others some any first_is others_is

  pub whole-behind : is_whole_record width first ≡ true
      → are_whole width count bytes ≡ are_whole width (count - 1) others
  whole-behind is =
      rw (missing_first (record_len width) count bytes others some any others_is, next_record, is) refl

  pub whole-here : is_whole_record width first ≡ false → are_whole width count bytes ≡ false
  whole-here is = rw (next_record, is) (and-false _)
