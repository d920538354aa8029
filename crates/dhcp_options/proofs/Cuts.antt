-- How options end: there is one way, and it is as it is computed.
use Rattle.dhcp_options.proofs.Words.{[], ◌++◌, ◌<◌, ◌∙◌, ◌∷◌, ◌≡◌, ◌≤◌, Ends, IsKind, List, None, Option}
use Rattle.dhcp_options.proofs.Words.{Some, ℕ, ap, arith, cases_eq, cases_lt, cut_of, drop, drop_at, eqb, false, inl, inr}
use Rattle.dhcp_options.proofs.Words.{le-ltb, length, length-append, length-drop, length-take-le, lt-ltb, ltb, ne_eqb}
use Rattle.dhcp_options.proofs.Words.{option, refl, subst, suc, sym, take, take-append-drop, true, zero}
use Rattle.dhcp_wire.specs.Dhcpv4Refusal.{with_bytes, with_mark, before_length, within_data, past_padding, past_option}
use Rattle.dhcp_options.specs.private.Ahead.{after_kind, counted, cut_within}

at_kind : (most kind : ℕ) (rest : List ℕ) → IsKind kind
    → cut_within (suc most) (kind ∷ rest) ≡ after_kind kind rest (cut_within most)
unfolding cut_within
at_kind most kind rest k =
    let a : eqb kind 255 ≡ false = ne_eqb kind 255 k.no_end in
    let b : eqb kind 0 ≡ false = ne_eqb kind 0 k.no_padding in
    rw (a, b) refl

at_end : (most : ℕ) (rest : List ℕ) → cut_within (suc most) (255 ∷ rest) ≡ None
unfolding cut_within
at_end most rest = refl

at_padding : (most : ℕ) (rest : List ℕ) → cut_within (suc most) (0 ∷ rest) ≡ cut_within most rest
unfolding cut_within
at_padding most rest = refl

at_none : (most : ℕ) → cut_within most [] ≡ None
unfolding cut_within
at_none zero = refl
at_none (suc most) = refl

cut_off : (kind n : ℕ) (rest : List ℕ) (go : List ℕ → Option ℕ) → length rest < n → counted kind n rest go ≡ Some kind
cut_off kind n rest go short = let e : ltb (length rest) n ≡ true = lt-ltb (length rest) n short in rw e refl

passed : (kind n : ℕ) (rest : List ℕ) (go : List ℕ → Option ℕ) → n ≤ length rest
    → counted kind n rest go ≡ go (drop n rest)
passed kind n rest go room = let e : ltb (length rest) n ≡ false = le-ltb (length rest) n room in rw e refl

-- in as many turns as there are bytes or more
computed : {bytes : List ℕ} {cut : Option ℕ} → Ends bytes cut → (most : ℕ) → length bytes ≤ most
    → cut_within most bytes ≡ cut
computed with_bytes most h = at_none most
computed (with_mark rest e) zero h = absurd (omega (arith, ap length e))
computed (with_mark rest e) (suc most) h = ap (cut_within (suc most)) e ∙ at_end most rest
computed (before_length kind k e) zero h = absurd (omega (arith, ap length e))
computed (before_length kind k e) (suc most) h = ap (cut_within (suc most)) e ∙ at_kind most kind [] k
computed (within_data kind n rest k short e) zero h = absurd (omega (arith, ap length e))
computed (within_data kind n rest k short e) (suc most) h =
    ap (cut_within (suc most)) e ∙ at_kind most kind (n ∷ rest) k ∙ cut_off kind n rest (cut_within most) short
computed (past_padding rest tail e) zero h = absurd (omega (arith, ap length e))
computed (past_padding rest tail e) (suc most) h =
    ap (cut_within (suc most)) e ∙ at_padding most rest ∙ computed tail most (omega (arith, ap length e))
computed (past_option o rest k tail e) zero h = absurd (omega (arith, ap length e))
computed (past_option o rest k tail e) (suc most) h =
    let long = length-append o.body rest in
    let back : drop (length o.body) (o.body ++ rest) ≡ rest = drop_at o.body rest (length o.body) refl in
    ap (cut_within (suc most)) e ∙ at_kind most o.kind (length o.body ∷ (o.body ++ rest)) k
    ∙ passed o.kind (length o.body) (o.body ++ rest) (cut_within most) (omega (arith, long))
    ∙ ap (cut_within most) back
    ∙ computed tail most (omega (arith, long, ap length e))

pub cut-is : (bytes : List ℕ) (cut : Option ℕ) → Ends bytes cut → cut_of bytes ≡ cut
cut-is bytes cut ends = computed ends (length bytes) (omega arith)

option_front : (most kind n : ℕ) (rest : List ℕ)
    → ((bytes : List ℕ) → length bytes ≤ most → Ends bytes (cut_within most bytes)) → IsKind kind
    → length rest ≤ most → Ends (kind ∷ n ∷ rest) (counted kind n rest (cut_within most))
option_front most kind n rest go k l =
    elim (cases_lt (length rest) n) as (λ _. Ends (kind ∷ n ∷ rest) (counted kind n rest (cut_within most))) [
      | inl short ↦ subst (λ (cut : Option ℕ). Ends (kind ∷ n ∷ rest) cut)
          (sym (cut_off kind n rest (cut_within most) short)) (within_data kind n rest k short refl)
      | inr room ↦
          let count : n ≡ length (take n rest) = sym (length-take-le n rest room) in
          let whole : n ∷ rest ≡ length (take n rest) ∷ (take n rest ++ drop n rest) =
          ap (λ (l : List ℕ). n ∷ l) (sym (take-append-drop n rest))
          ∙ ap (λ (m : ℕ). m ∷ (take n rest ++ drop n rest)) count in
          subst (λ (cut : Option ℕ). Ends (kind ∷ n ∷ rest) cut)
          (sym (passed kind n rest (cut_within most) room))
          (past_option (option kind (take n rest)) (drop n rest) k
          (go (drop n rest) (omega (arith, length-drop n rest))) (ap (λ (l : List ℕ). kind ∷ l) whole))
    ]

kind_front : (most kind : ℕ) (rest : List ℕ)
    → ((bytes : List ℕ) → length bytes ≤ most → Ends bytes (cut_within most bytes)) → IsKind kind
    → length rest ≤ most → Ends (kind ∷ rest) (after_kind kind rest (cut_within most))
kind_front most kind [] go k l = before_length kind k refl
kind_front most kind (n ∷ rest) go k l = option_front most kind n rest go k (omega arith)

within : (most : ℕ) (bytes : List ℕ) → length bytes ≤ most → Ends bytes (cut_within most bytes)
within most [] l = subst (λ (cut : Option ℕ). Ends [] cut) (sym (at_none most)) with_bytes
within zero (kind ∷ rest) l = absurd (omega arith)
within (suc most) (kind ∷ rest) l =
    let fewer : length rest ≤ most = omega arith in
    elim (cases_eq kind 255) as (λ _. Ends (kind ∷ rest) (cut_within (suc most) (kind ∷ rest))) [
      | inl e ↦ subst (λ (k : ℕ). Ends (k ∷ rest) (cut_within (suc most) (k ∷ rest))) (sym e)
          (subst (λ (cut : Option ℕ). Ends (255 ∷ rest) cut) (sym (at_end most rest)) (with_mark rest refl))
      | inr no_end ↦ elim (cases_eq kind 0) as (λ _. Ends (kind ∷ rest) (cut_within (suc most) (kind ∷ rest))) [
        | inl e ↦ subst (λ (k : ℕ). Ends (k ∷ rest) (cut_within (suc most) (k ∷ rest))) (sym e)
            (subst (λ (cut : Option ℕ). Ends (0 ∷ rest) cut) (sym (at_padding most rest))
            (past_padding rest (within most rest fewer) refl))
        | inr no_padding ↦
            let k : IsKind kind = record { no_padding = no_padding; no_end = no_end } in
            subst (λ (cut : Option ℕ). Ends (kind ∷ rest) cut) (sym (at_kind most kind rest k))
            (kind_front most kind rest (λ b f. within most b f) k fewer)
      ]
    ]

pub ends-cut : (bytes : List ℕ) → Ends bytes (cut_of bytes)
ends-cut bytes = within (length bytes) bytes (omega arith)
