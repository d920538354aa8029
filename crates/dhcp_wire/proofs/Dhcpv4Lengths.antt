-- How many bytes a value takes.
use Rattle.dhcp_wire.proofs.Words.{[], ◌++◌, ◌+◌, ◌∙◌, ◌∷◌, ◌≡◌, List, None, Option, OptionValue, Slot, Some, Value, ℕ}
use Rattle.dhcp_wire.proofs.Words.{ap, arith, common_steps, data_len, fields_len, header_text, length, length-append}
use Rattle.dhcp_wire.proofs.Words.{of_slot, of_slots, option, option_text, options_len, options_of, options_text, refl}
use Rattle.dhcp_wire.proofs.Words.{slots_len, slots_of, sym, text, text_len}
use Rattle.dhcp_wire.proofs.Dhcpv4Packet.{header_len-240}

pub text_len-options : (v : Value) → length (text v) ≡ 240 + (length (options_text (options_of v)) + 1)
text_len-options v =
    omega (
      arith,
      header_len-240 v,
      length-append (header_text v) (options_text (options_of v) ++ 255 ∷ []),
      length-append (options_text (options_of v)) (255 ∷ []),
    )

-- ---- option by option

pub options_len-none : length (options_text []) ≡ 0
unfolding options_text
options_len-none = refl

pub options_len-more : (o : OptionValue) (os : List OptionValue)
    → length (options_text (o ∷ os)) ≡ 2 + length o.body + length (options_text os)
unfolding options_text
options_len-more o os = omega (arith, length-append (option_text o) (options_text os))

regroup : (a b c : ℕ) → a + (b + c) ≡ a + b + c
regroup a b c = omega arith

options_len-append : (xs ys : List OptionValue)
    → length (options_text (xs ++ ys)) ≡ length (options_text xs) + length (options_text ys)
options_len-append [] ys = omega (arith, options_len-none)
options_len-append (o ∷ xs) ys =
    options_len-more o (xs ++ ys) ∙ ap (λ (n : ℕ). 2 + length o.body + n) (options_len-append xs ys)
    ∙ regroup (2 + length o.body) (length (options_text xs)) (length (options_text ys))
    ∙ ap (λ (n : ℕ). n + length (options_text ys)) (sym (options_len-more o xs))

slot_len : (kind : ℕ) (body : Option (List ℕ)) (os : List OptionValue)
    → length (options_text (of_slot kind body os)) ≡ data_len body + length (options_text os)
slot_len kind None os = omega arith
slot_len kind (Some d) os = options_len-more (option kind d) os

slots_len-whole : (ss : List Slot) → length (options_text (of_slots ss)) ≡ slots_len ss
slots_len-whole [] = options_len-none
slots_len-whole (s ∷ ss) =
    slot_len s.kind s.body (of_slots ss) ∙ ap (λ (n : ℕ). data_len s.body + n) (slots_len-whole ss)

with-ends : (a b : ℕ) → 240 + (a + b + 1) ≡ 241 + a + b
with-ends a b = omega arith

-- the fields, and the additional options
pub text_len-fields : (v : Value) → length (text v) ≡ fields_len v + length (options_text v.additional_options)
text_len-fields v =
    text_len-options v
    ∙ ap (λ (n : ℕ). 240 + (n + 1)) (options_len-append (of_slots (slots_of v)) v.additional_options)
    ∙ with-ends (length (options_text (of_slots (slots_of v)))) (length (options_text v.additional_options))
    ∙ ap (λ (n : ℕ). n + length (options_text v.additional_options))
    (ap (λ (n : ℕ). 241 + n) (slots_len-whole (slots_of v)))

options_len-whole : (os : List OptionValue) → length (options_text os) ≡ options_len os
options_len-whole [] = options_len-none
options_len-whole (o ∷ os) =
    options_len-more o os ∙ ap (λ (n : ℕ). 2 + length o.body + n) (options_len-whole os)

pub text_len-whole : (v : Value) → length (text v) ≡ text_len v
text_len-whole v =
    text_len-fields v ∙ ap (λ (n : ℕ). fields_len v + n) (options_len-whole v.additional_options)

pub ruleset lengths = (common_steps, options_len-none, options_len-more)
