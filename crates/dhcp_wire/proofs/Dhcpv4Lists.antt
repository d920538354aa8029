-- The list of the options in bytes: there is one, and it is as it is computed.
use Rattle.dhcp_wire.proofs.Words.{[], ◌++◌, ◌<◌, ◌∙◌, ◌∷◌, ◌≡◌, ◌≢◌, ◌≤◌, ◌⊎◌, HasNoPadding, IsKind, List, OptionValue}
use Rattle.dhcp_wire.proofs.Words.{Options, Some, ℕ, ap, arith, cases_eq, cases_lt, drop, drop_at, ended, eqb, false}
use Rattle.dhcp_wire.proofs.Words.{goes_on, inl, inr, le-ltb, length, length-append, length-drop, length-take-le}
use Rattle.dhcp_wire.proofs.Words.{list_of, lone, lt-ltb, ltb, ne_eqb, none, option, padded, refl, slice_index, subst}
use Rattle.dhcp_wire.proofs.Words.{suc, sym, take, take-append-drop, take_at, torn, true, value_of_option, zero}
use Rattle.std.specs.Iterator.{MakesProgress, at_most}
use Rattle.dhcp_wire.specs.declared.dhcpv4.options.DhcpOption.{DhcpOption}
use Rattle.dhcp_wire.specs.private.Dhcpv4OptionsAhead.{after_kind, counted, options_within}

-- a kind that data follows
at_kind : (most kind : ℕ) (rest : List ℕ) → IsKind kind → options_within (suc most) (kind ∷ rest)
    ≡ after_kind kind rest (options_within most)
unfolding options_within
at_kind most kind rest k =
    let a : eqb kind 255 ≡ false = ne_eqb kind 255 k.no_end in
    let b : eqb kind 0 ≡ false = ne_eqb kind 0 k.no_padding in
    rw (a, b) refl

at_end : (most : ℕ) (rest : List ℕ) → options_within (suc most) (255 ∷ rest) ≡ []
unfolding options_within
at_end most rest = refl

at_padding : (most : ℕ) (rest : List ℕ) → options_within (suc most) (0 ∷ rest) ≡ options_within most rest
unfolding options_within
at_padding most rest = refl

at_none : (most : ℕ) → options_within most [] ≡ []
unfolding options_within
at_none zero = refl
at_none (suc most) = refl

cut_off : (kind n : ℕ) (rest : List ℕ) (go : List ℕ → List OptionValue) → length rest < n → counted kind n rest go ≡ []
cut_off kind n rest go short = let e : ltb (length rest) n ≡ true = lt-ltb (length rest) n short in rw e refl

whole_option : (kind n : ℕ) (rest : List ℕ) (go : List ℕ → List OptionValue) → n ≤ length rest
    → counted kind n rest go ≡ option kind (take n rest) ∷ go (drop n rest)
whole_option kind n rest go room = let e : ltb (length rest) n ≡ false = le-ltb (length rest) n room in rw e refl

-- the list is computed, in as many turns as there are bytes or more
computed : {bytes : List ℕ} {options : List OptionValue} → Options bytes options → (most : ℕ) → length bytes ≤ most
    → options_within most bytes ≡ options
computed none most h = at_none most
computed (ended rest e) zero h = absurd (omega (arith, ap length e))
computed (ended rest e) (suc most) h = ap (options_within (suc most)) e ∙ at_end most rest
computed (padded rest tail e) zero h = absurd (omega (arith, ap length e))
computed (padded rest tail e) (suc most) h =
    ap (options_within (suc most)) e ∙ at_padding most rest ∙ computed tail most (omega (arith, ap length e))
computed (lone kind k e) zero h = absurd (omega (arith, ap length e))
computed (lone kind k e) (suc most) h = ap (options_within (suc most)) e ∙ at_kind most kind [] k
computed (torn kind n rest k short e) zero h = absurd (omega (arith, ap length e))
computed (torn kind n rest k short e) (suc most) h =
    ap (options_within (suc most)) e ∙ at_kind most kind (n ∷ rest) k ∙ cut_off kind n rest (options_within most) short
computed (goes_on o rest k tail e) zero h = absurd (omega (arith, ap length e))
computed (goes_on o rest k tail e) (suc most) h =
    let long = length-append o.body rest in
    let front : take (length o.body) (o.body ++ rest) ≡ o.body = take_at o.body rest (length o.body) refl in
    let back : drop (length o.body) (o.body ++ rest) ≡ rest = drop_at o.body rest (length o.body) refl in
    ap (options_within (suc most)) e ∙ at_kind most o.kind (length o.body ∷ (o.body ++ rest)) k
    ∙ whole_option o.kind (length o.body) (o.body ++ rest) (options_within most) (omega (arith, long))
    ∙ ap (λ (l : List ℕ). option o.kind l ∷ options_within most (drop (length o.body) (o.body ++ rest))) front
    ∙ ap (λ (l : List ℕ). o ∷ options_within most l) back
    ∙ ap (λ (l : List OptionValue). o ∷ l) (computed tail most (omega (arith, long, ap length e)))

-- there is one list
pub options-unique : (bytes : List ℕ) (options others : List OptionValue) → Options bytes options → Options bytes others
    → others ≡ options
options-unique bytes options others a b =
    sym (computed b (length bytes) (omega arith)) ∙ computed a (length bytes) (omega arith)

-- and it is the computed one
option_front : (most kind n : ℕ) (rest : List ℕ)
    → ((bytes : List ℕ) → length bytes ≤ most → Options bytes (options_within most bytes)) → IsKind kind
    → length rest ≤ most → Options (kind ∷ n ∷ rest) (counted kind n rest (options_within most))
option_front most kind n rest go k l =
    elim (cases_lt (length rest) n) as (λ _. Options (kind ∷ n ∷ rest) (counted kind n rest (options_within most))) [
      | inl short ↦ subst (λ (os : List OptionValue). Options (kind ∷ n ∷ rest) os)
          (sym (cut_off kind n rest (options_within most) short)) (torn kind n rest k short refl)
      | inr room ↦
          let count : n ≡ length (take n rest) = sym (length-take-le n rest room) in
          let whole : n ∷ rest ≡ length (take n rest) ∷ (take n rest ++ drop n rest) =
          ap (λ (l : List ℕ). n ∷ l) (sym (take-append-drop n rest))
          ∙ ap (λ (m : ℕ). m ∷ (take n rest ++ drop n rest)) count in
          subst (λ (os : List OptionValue). Options (kind ∷ n ∷ rest) os)
          (sym (whole_option kind n rest (options_within most) room))
          (goes_on (option kind (take n rest)) (drop n rest) k (go (drop n rest) (omega (arith, length-drop n rest)))
          (ap (λ (l : List ℕ). kind ∷ l) whole))
    ]

kind_front : (most kind : ℕ) (rest : List ℕ)
    → ((bytes : List ℕ) → length bytes ≤ most → Options bytes (options_within most bytes)) → IsKind kind
    → length rest ≤ most → Options (kind ∷ rest) (after_kind kind rest (options_within most))
kind_front most kind [] go k l = lone kind k refl
kind_front most kind (n ∷ rest) go k l = option_front most kind n rest go k (omega arith)

within : (most : ℕ) (bytes : List ℕ) → length bytes ≤ most → Options bytes (options_within most bytes)
within most [] l = subst (λ (os : List OptionValue). Options [] os) (sym (at_none most)) none
within zero (kind ∷ rest) l = absurd (omega arith)
within (suc most) (kind ∷ rest) l =
    let fewer : length rest ≤ most = omega arith in
    elim (cases_eq kind 255) as (λ _. Options (kind ∷ rest) (options_within (suc most) (kind ∷ rest))) [
      | inl e ↦ subst (λ (k : ℕ). Options (k ∷ rest) (options_within (suc most) (k ∷ rest))) (sym e)
          (subst (λ (os : List OptionValue). Options (255 ∷ rest) os) (sym (at_end most rest)) (ended rest refl))
      | inr no_end ↦ elim (cases_eq kind 0) as (λ _. Options (kind ∷ rest) (options_within (suc most) (kind ∷ rest))) [
        | inl e ↦ subst (λ (k : ℕ). Options (k ∷ rest) (options_within (suc most) (k ∷ rest))) (sym e)
            (subst (λ (os : List OptionValue). Options (0 ∷ rest) os) (sym (at_padding most rest))
            (padded rest (within most rest fewer) refl))
        | inr no_padding ↦
            let k : IsKind kind = record { no_padding = no_padding; no_end = no_end } in
            subst (λ (os : List OptionValue). Options (kind ∷ rest) os) (sym (at_kind most kind rest k))
            (kind_front most kind rest (λ b f. within most b f) k fewer)
      ]
    ]

pub list-options : (bytes : List ℕ) → Options bytes (list_of bytes)
list-options bytes = within (length bytes) bytes (omega arith)

-- ---- the list by what the bytes begin with

list-is : (bytes : List ℕ) (options : List OptionValue) → Options bytes options → list_of bytes ≡ options
list-is bytes options a = options-unique bytes options (list_of bytes) a (list-options bytes)

pub list-none : list_of [] ≡ []
list-none = at_none 0

pub list-padding : (rest : List ℕ) → list_of (0 ∷ rest) ≡ list_of rest
list-padding rest = list-is (0 ∷ rest) (list_of rest) (padded rest (list-options rest) refl)

pub list-end : (rest : List ℕ) → list_of (255 ∷ rest) ≡ []
list-end rest = list-is (255 ∷ rest) [] (ended rest refl)

-- fewer bytes than a kind and a length
pub list-short : (bytes : List ℕ) → length bytes < 2 → HasNoPadding bytes → list_of bytes ≡ []
list-short [] l h = list-none
list-short (kind ∷ []) l h = elim (cases_eq kind 255) as (λ _. list_of (kind ∷ []) ≡ []) [
  | inl e ↦ ap (λ (k : ℕ). list_of (k ∷ [])) e ∙ list-end []
  | inr other ↦
      list-is (kind ∷ []) []
      (lone kind (record { no_padding = λ e. h [] (ap (λ (k : ℕ). k ∷ []) e); no_end = other }) refl)
]
list-short (kind ∷ n ∷ rest) l h = absurd (omega arith)

not_padding : (kind : ℕ) (rest : List ℕ) → HasNoPadding (kind ∷ rest) → kind ≢ 0
not_padding kind rest h e = h rest (ap (λ (k : ℕ). k ∷ rest) e)

-- an end mark, or an option that is cut off
pub list-cut : (kind n : ℕ) (rest : List ℕ) → HasNoPadding (kind ∷ n ∷ rest) → (kind ≡ 255) ⊎ (length rest < n)
    → list_of (kind ∷ n ∷ rest) ≡ []
list-cut kind n rest h (inl e) = ap (λ (k : ℕ). list_of (k ∷ n ∷ rest)) e ∙ list-end (n ∷ rest)
list-cut kind n rest h (inr short) = elim (cases_eq kind 255) as (λ _. list_of (kind ∷ n ∷ rest) ≡ []) [
  | inl e ↦ ap (λ (k : ℕ). list_of (k ∷ n ∷ rest)) e ∙ list-end (n ∷ rest)
  | inr other ↦
      list-is (kind ∷ n ∷ rest) []
      (torn kind n rest (record { no_padding = not_padding kind (n ∷ rest) h; no_end = other }) short refl)
]

-- an option
pub list-option : (kind n : ℕ) (rest : List ℕ) → HasNoPadding (kind ∷ n ∷ rest) → kind ≢ 255 → n ≤ length rest
    → list_of (kind ∷ n ∷ rest) ≡ option kind (take n rest) ∷ list_of (drop n rest)
list-option kind n rest h other room =
    let count : length (take n rest) ≡ n = length-take-le n rest room in
    let whole : n ∷ rest ≡ length (take n rest) ∷ (take n rest ++ drop n rest) =
    ap (λ (l : List ℕ). n ∷ l) (sym (take-append-drop n rest))
    ∙ ap (λ (m : ℕ). m ∷ (take n rest ++ drop n rest)) (sym count) in
    list-is (kind ∷ n ∷ rest) _
    (goes_on (option kind (take n rest)) (drop n rest)
    (record { no_padding = not_padding kind (n ∷ rest) h; no_end = other }) (list-options (drop n rest))
    (ap (λ (l : List ℕ). kind ∷ l) whole))

-- ---- the list of bytes by their places

pub front-cut : (bytes rest : List ℕ) → 2 ≤ length bytes → rest ≡ drop 2 bytes → HasNoPadding bytes
    → (slice_index bytes 0 ≡ 255) ⊎ (length rest < slice_index bytes 1) → list_of bytes ≡ []
front-cut [] rest l e h w = absurd (omega arith)
front-cut (kind ∷ []) rest l e h w = absurd (omega arith)
front-cut (kind ∷ n ∷ tail) rest l e h (inl w) = list-cut kind n tail h (inl w)
front-cut (kind ∷ n ∷ tail) rest l e h (inr short) = list-cut kind n tail h (inr (omega (arith, ap length e)))

pub front-option : (bytes rest front back : List ℕ) → 2 ≤ length bytes → rest ≡ drop 2 bytes → HasNoPadding bytes
    → slice_index bytes 0 ≢ 255 → slice_index bytes 1 ≤ length rest
    → front ≡ take (slice_index bytes 1) rest → back ≡ drop (slice_index bytes 1) rest
    → list_of bytes ≡ option (slice_index bytes 0) front ∷ list_of back
front-option [] rest front back l s h other room e f = absurd (omega arith)
front-option (kind ∷ []) rest front back l s h other room e f = absurd (omega arith)
front-option (kind ∷ n ∷ tail) rest front back l s h other room e f =
    let first : take n tail ≡ front = ap (λ (t : List ℕ). take n t) (sym s) ∙ sym e in
    let last : drop n tail ≡ back = ap (λ (t : List ℕ). drop n t) (sym s) ∙ sym f in
    list-option kind n tail h other (omega (arith, ap length s))
    ∙ ap (λ (d : List ℕ). option kind d ∷ list_of (drop n tail)) first
    ∙ ap (λ (b : List ℕ). option kind front ∷ list_of b) last

-- an option that is taken off leaves fewer
pub option-progress : (old new : List OptionValue) (o : DhcpOption) → old ≡ value_of_option o ∷ new
    → MakesProgress {S = List OptionValue} {A = DhcpOption} (λ _. Unit {0}) (λ options. at_most (length options)) old
    (Some o) new
option-progress old new o e =
    let fewer : length new < length old = omega (arith, ap length e) in
    record { on = λ _. (tt, tt, fewer); keeps = tt; rests = λ _. tt }
