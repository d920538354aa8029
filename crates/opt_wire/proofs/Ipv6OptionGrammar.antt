-- Options against their bytes: the grammar as it is computed, byte by byte.
use Rattle.opt_wire.proofs.Words.{[], ◌*◌, ◌++◌, ◌+◌, ◌-◌, ◌∙◌, ◌∷◌, ◌≡◌, ◌≢◌, ◌≤◌, ◌⊎◌, Bool, Err, IfOk, IsErr}
use Rattle.opt_wire.proofs.Words.{IsOkAnd, IsOption, List, None, Ok, Option, OptionValue, Result, RouterAlert, Some, ℕ}
use Rattle.opt_wire.proofs.Words.{ap, arith, big_number, byte_of, bytes_of, cond, drop, eqb, eqb-false, eqb-true, false}
use Rattle.opt_wire.proofs.Words.{inl, inr, le-ltb, length, length-append, length-take-le, ltb, ltb-false, nat_tests}
use Rattle.opt_wire.proofs.Words.{ne_eqb, pad1, pad_n, part, refl, router_alert, slice_index, subst, sym, take}
use Rattle.opt_wire.proofs.Words.{take-append-drop, take_at, true, unknown, value_of}
use Rattle.std.proofs.lemmas.Option.{same_Some}
use Rattle.opt_wire.specs.declared.ipv6option.tables.Type.{«Type» as Kind}
use Rattle.opt_wire.specs.declared.ipv6option.Repr.{Repr}
use Rattle.opt_wire.specs.Ipv6OptionTables.{type_number, type_of, alert_of}
use Rattle.opt_wire.specs.Ipv6Option.{option_type_field, opt_data_len_field, option_data_field, BeginsWhole, BeginsWith}
use Rattle.opt_wire.specs.Ipv6OptionRefusal.{IsRead}
use Rattle.opt_wire.proofs.FieldsAtOnce.{all_bytes}
use Rattle.opt_wire.specs.Ipv6OptionModel.{front_of, counted_at, known_at, alert_at}

-- which way a test went
chosen : {A : Type 0} (b : Bool) (x y z : A) → cond b x y ≡ z → ((b ≡ true) × (x ≡ z)) ⊎ ((b ≡ false) × (y ≡ z))
chosen true x y z e = inl (refl, e)
chosen false x y z e = inr (refl, e)

-- THE COMPUTED FRONT

front_of-counted : (t n : ℕ) (rest : List ℕ) → t ≢ 0 → n ≤ length rest
    → front_of (t ∷ n ∷ rest) ≡ known_at t n (take n rest)
front_of-counted t n rest ne h =
    let e : eqb t 0 ≡ false = ne_eqb t 0 ne in
    let f : ltb (length rest) n ≡ false = le-ltb (length rest) n h in
    rw (e, f) refl

-- where the check of the length accepts
front_of-whole : (bytes : List ℕ) → BeginsWhole bytes → byte_of option_type_field bytes ≢ 0
    → front_of bytes ≡ known_at (byte_of option_type_field bytes) (byte_of opt_data_len_field bytes)
    (bytes_of (option_data_field bytes) bytes)
unfolding part
front_of-whole [] w ne = absurd (omega (arith, w.0))
front_of-whole (t ∷ []) w ne = absurd (omega (arith, w.1 ne))
front_of-whole (t ∷ n ∷ rest) w ne =
    let count : n ≡ 2 + n - 2 = omega arith in
    front_of-counted t n rest ne (omega (arith, w.1 ne)) ∙ ap (λ k. known_at t n (take k rest)) count

type_number-of : (t : ℕ) → type_number (type_of t) ≡ t
type_number-of t = grind (arith, nat_tests)

number_from : (t : ℕ) (k : Kind) → type_of t ≡ k → t ≡ type_number k
number_from t k e = sym (type_number-of t) ∙ ap type_number e

pub front_of-pads : (bytes : List ℕ) (n : ℕ) → BeginsWhole bytes
    → type_of (byte_of option_type_field bytes) ≡ Kind.PadN → n ≡ byte_of opt_data_len_field bytes
    → front_of bytes ≡ Some (pad_n n)
front_of-pads bytes n w e same =
    let t : byte_of option_type_field bytes ≡ 1 = number_from _ _ e in
    front_of-whole bytes w (λ z. absurd (omega (arith, z, t)))
    ∙ ap (λ (x : ℕ). known_at x (byte_of opt_data_len_field bytes) (bytes_of (option_data_field bytes) bytes)) t
    ∙ ap (λ (x : ℕ). Some (pad_n x)) (sym same)

pub front_of-alert : (bytes : List ℕ) (a : RouterAlert) → BeginsWhole bytes
    → type_of (byte_of option_type_field bytes) ≡ Kind.RouterAlert → byte_of opt_data_len_field bytes ≡ 2
    → a ≡ alert_of (big_number 2 (bytes_of (option_data_field bytes) bytes)) → front_of bytes ≡ Some (router_alert a)
front_of-alert bytes a w e two same =
    let t : byte_of option_type_field bytes ≡ 5 = number_from _ _ e in
    front_of-whole bytes w (λ z. absurd (omega (arith, z, t)))
    ∙ ap (λ (x : ℕ). known_at x (byte_of opt_data_len_field bytes) (bytes_of (option_data_field bytes) bytes)) t
    ∙ ap (λ (x : ℕ). alert_at x (bytes_of (option_data_field bytes) bytes)) two
    ∙ ap (λ (x : RouterAlert). Some (router_alert x)) (sym same)

known_at-other : (t n : ℕ) (d : List ℕ) → t ≢ 1 → t ≢ 5 → known_at t n d ≡ Some (unknown (type_of t) n d)
known_at-other t n d p q =
    let e : eqb t 1 ≡ false = ne_eqb t 1 p in
    let f : eqb t 5 ≡ false = ne_eqb t 5 q in
    rw (e, f) refl

pub front_of-other : (bytes : List ℕ) (k : Kind) (n : ℕ) (d : List ℕ) → BeginsWhole bytes
    → k ≡ type_of (byte_of option_type_field bytes) → k ≢ Kind.Pad1 → k ≢ Kind.PadN → k ≢ Kind.RouterAlert
    → n ≡ byte_of opt_data_len_field bytes → d ≡ bytes_of (option_data_field bytes) bytes
    → front_of bytes ≡ Some (unknown k n d)
front_of-other bytes k n d w e p q r same same_data =
    let known =
    known_at-other (byte_of option_type_field bytes) (byte_of opt_data_len_field bytes)
    (bytes_of (option_data_field bytes) bytes) (λ z. q (e ∙ ap type_of z)) (λ z. r (e ∙ ap type_of z)) in
    let whole = front_of-whole bytes w (λ z. p (e ∙ ap type_of z)) in
    cc

-- THE COMPUTED FRONT AND THE GRAMMAR

alert-option : (n : ℕ) (d : List ℕ) (v : OptionValue) → alert_at n d ≡ Some v → length d ≡ n → IsOption (5 ∷ n ∷ d) v
alert-option n d v e l = elim (chosen (eqb n 2) (Some (router_alert (alert_of (big_number 2 d)))) None (Some v) e) [
  | inl a ↦
      let two : n ≡ 2 = eqb-true n 2 a.0 in
      let shape : d ≡ slice_index d 0 ∷ slice_index d 1 ∷ [] = all_bytes d 0 2 (l ∙ two) in
      let number : big_number 2 d ≡ 256 * slice_index d 0 + slice_index d 1 = omega arith in
      let is : router_alert (alert_of (big_number 2 d)) ≡ v = same_Some _ _ a.1 in
      subst (λ (x : OptionValue). IsOption (5 ∷ n ∷ d) x) is (
        slice_index d 0,
        slice_index d 1,
        ap (λ (k : ℕ). 5 ∷ k ∷ d) two ∙ ap (λ (l : List ℕ). 5 ∷ 2 ∷ l) shape,
        ap alert_of number,
      )
  | inr b ↦ let no = b.1 in cc
]

known-option : (t n : ℕ) (d : List ℕ) (v : OptionValue) → known_at t n d ≡ Some v → length d ≡ n → t ≢ 0
    → IsOption (t ∷ n ∷ d) v
known-option t n d v e l ne =
    elim
    (chosen (eqb t 1) (Some (pad_n n)) (cond (eqb t 5) (alert_at n d) (Some (unknown (type_of t) n d))) (Some v) e) [
      | inl a ↦
          let is : pad_n n ≡ v = same_Some _ _ a.1 in
          subst (λ (x : OptionValue). IsOption (t ∷ n ∷ d) x) is (d, ap (λ (k : ℕ). k ∷ n ∷ d) (eqb-true t 1 a.0), l)
      | inr b ↦ elim (chosen (eqb t 5) (alert_at n d) (Some (unknown (type_of t) n d)) (Some v) b.1) [
        | inl a ↦ subst (λ (k : ℕ). IsOption (k ∷ n ∷ d) v) (sym (eqb-true t 5 a.0)) (alert-option n d v a.1 l)
        | inr a ↦
            let is : unknown (type_of t) n d ≡ v = same_Some _ _ a.1 in
            subst (λ (x : OptionValue). IsOption (t ∷ n ∷ d) x) is
            (t, refl, l, refl, ne, eqb-false t 1 b.0, eqb-false t 5 a.0)
      ]
    ]

counted-option : (t : ℕ) (rest : List ℕ) (v : OptionValue) → counted_at t rest ≡ Some v → t ≢ 0
    → BeginsWith (t ∷ rest) v
counted-option t [] v e ne = cc
counted-option t (n ∷ rest) v e ne = elim (chosen (ltb (length rest) n) None (known_at t n (take n rest)) (Some v) e) [
  | inl a ↦ let no = a.1 in cc
  | inr b ↦ record {
    front = t ∷ n ∷ take n rest;
    rest = drop n rest;
    whole = ap (λ (l : List ℕ). t ∷ n ∷ l) (sym (take-append-drop n rest));
    option = known-option t n (take n rest) v b.1 (length-take-le n rest (ltb-false (length rest) n b.0)) ne;
  }
]

pub begins_with : (bytes : List ℕ) (v : OptionValue) → front_of bytes ≡ Some v → BeginsWith bytes v
begins_with [] v e = cc
begins_with (t ∷ rest) v e = elim (chosen (eqb t 0) (Some pad1) (counted_at t rest) (Some v) e) [
  | inl a ↦
      let is : pad1 ≡ v = same_Some _ _ a.1 in
      record {
        front = t ∷ [];
        rest = rest;
        whole = refl;
        option = subst (λ (x : OptionValue). IsOption (t ∷ []) x) is (ap (λ (k : ℕ). k ∷ []) (eqb-true t 0 a.0));
      }
  | inr b ↦ counted-option t rest v b.1 (eqb-false t 0 b.0)
]

option_front : (front rest : List ℕ) (v : OptionValue) → IsOption front v → front_of (front ++ rest) ≡ Some v
option_front front rest pad1 h = rw h refl
option_front front rest (pad_n n) h =
    ap (λ (l : List ℕ). front_of (l ++ rest)) h.1
    ∙ front_of-counted 1 n (h.0 ++ rest) (λ z. absurd (omega (arith, z))) (omega (arith, h.2, length-append h.0 rest))
option_front front rest (router_alert a) h =
    let number : big_number 2 (h.0 ∷ h.1 ∷ []) ≡ 256 * h.0 + h.1 = omega arith in
    ap (λ (l : List ℕ). front_of (l ++ rest)) h.2
    ∙ front_of-counted 5 2 (h.0 ∷ h.1 ∷ rest) (λ z. absurd (omega (arith, z))) (omega arith)
    ∙ ap (λ (x : ℕ). Some (router_alert (alert_of x))) number
    ∙ ap (λ (x : RouterAlert). Some (router_alert x)) (sym h.3)
option_front front rest (unknown k n d) h =
    ap (λ (l : List ℕ). front_of (l ++ rest)) h.1
    ∙ front_of-counted h.0 n (d ++ rest) h.4 (omega (arith, h.2, length-append d rest))
    ∙ ap (λ (l : List ℕ). known_at h.0 n l) (take_at d rest n h.2) ∙ known_at-other h.0 n d h.5 h.6
    ∙ ap (λ (x : Kind). Some (unknown x n d)) (sym h.3)

pub front_of-begins : (bytes : List ℕ) (v : OptionValue) → BeginsWith bytes v → front_of bytes ≡ Some v
front_of-begins bytes v h = ap front_of h.whole ∙ option_front h.front h.rest v h.option

-- the bytes begin with one option at most
pub begins_with-unique : (bytes : List ℕ) (v w : OptionValue) → BeginsWith bytes v → BeginsWith bytes w → v ≡ w
begins_with-unique bytes v w a b = same_Some v w (sym (front_of-begins bytes v a) ∙ front_of-begins bytes w b)

none_at_front : (bytes : List ℕ) (o : Option OptionValue) → front_of bytes ≡ o
    → ((v : OptionValue) → BeginsWith bytes v → ⊥) → o ≡ None
none_at_front bytes None e none = refl
none_at_front bytes (Some v) e none = absurd (none v (begins_with bytes v e))

pub front_of-refused : (bytes : List ℕ) → ((v : OptionValue) → BeginsWith bytes v → ⊥) → front_of bytes ≡ None
front_of-refused bytes none = none_at_front bytes (front_of bytes) refl none

-- what answers soundly, and refuses only what is nothing, is complete
pub complete : {E : Type 0} (result : Result Repr E) (bytes : List ℕ) → IfOk result (λ r. BeginsWith bytes (value_of r))
    → (IsErr result → (v : OptionValue) → BeginsWith bytes v → ⊥)
    → (v : OptionValue) → BeginsWith bytes v → IsOkAnd result (λ r. value_of r ≡ v)
complete (Ok r) bytes sound refuses v b = begins_with-unique bytes (value_of r) v sound b
complete (Err e) bytes sound refuses v b = absurd (refuses refl v b)

-- WHAT IS NOT READ

tested : (b : Bool) → (b ≡ true) ⊎ (b ≡ false)
tested true = inl refl
tested false = inr refl

known_at-some : (t n : ℕ) (d : List ℕ) → (t ≡ 5 → n ≡ 2) → (v : OptionValue) × (known_at t n d ≡ Some v)
known_at-some t n d fits = elim (tested (eqb t 1)) [
  | inl a ↦ (pad_n n, rw a refl)
  | inr b ↦ elim (tested (eqb t 5)) [
    | inl a ↦
        let two : eqb n 2 ≡ true = rw (fits (eqb-true t 5 a)) refl in
        (router_alert (alert_of (big_number 2 d)), rw (b, a, two) refl)
    | inr a ↦ (unknown (type_of t) n d, rw (b, a) refl)
  ]
]

-- whole bytes are read, except for a router alert of other than 2 bytes
whole-read : (bytes : List ℕ) → BeginsWhole bytes
    → (byte_of option_type_field bytes ≡ 5 → byte_of opt_data_len_field bytes ≡ 2) → IsRead bytes
whole-read [] w fits = absurd (omega (arith, w.0))
whole-read (t ∷ rest) w fits = elim (tested (eqb t 0)) [
  | inl a ↦
      let pad : front_of (t ∷ rest) ≡ Some pad1 = rw a refl in
      (pad1, begins_with (t ∷ rest) pad1 pad)
  | inr b ↦
      let known = known_at-some t (byte_of opt_data_len_field (t ∷ rest))
      (bytes_of (option_data_field (t ∷ rest)) (t ∷ rest)) fits in
      (known.0, begins_with (t ∷ rest) known.0 (front_of-whole (t ∷ rest) w (eqb-false t 0 b) ∙ known.1))
]

pub misfit : (bytes : List ℕ) → BeginsWhole bytes → (IsRead bytes → ⊥)
    → (byte_of option_type_field bytes ≡ 5) × (byte_of opt_data_len_field bytes ≢ 2)
misfit bytes w none = elim (tested (eqb (byte_of option_type_field bytes) 5)) [
  | inl a ↦ (eqb-true _ _ a, λ two. none (whole-read bytes w (λ five. two)))
  | inr b ↦ absurd (none (whole-read bytes w (λ five. absurd (eqb-false _ _ b five))))
]
