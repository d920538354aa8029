-- Digits that are converted to octets, two for each, and eight at a time as the octets of a word.
use Rattle.std.proofs.Common.{◌≡◌, ℕ, ◌+◌, ◌-◌, ◌*◌, ◌/◌, ◌%◌, ◌<◌, ◌≤◌, true, List, [], ◌∷◌, ◌++◌, length, take}
use Rattle.std.proofs.Common.{drop, slice_index, Some, refl, sym, ap, ◌∙◌, arith, get_or, subst}
use Rattle.std.proofs.lemmas.List.{append_assoc, append-nil, drop_all, drop-drop, length-drop, length-take-le}
use Rattle.std.proofs.lemmas.List.{take_all, take-append-drop, take_more_set}
use Rattle.std.proofs.lemmas.List.Elements.{All-drop, All-head, All-tail, All-take}
use Rattle.std.proofs.lemmas.List.Sums.{AllPass-from_list_all}
use Rattle.std.proofs.lemmas.Slice.{take-put_mid}
use Rattle.std.specs.List.{AllPass, list_all}
use borrow.Rule.Slice.PartMut.{put_mid}
use Rattle.std.specs.Prelude.{slice_set, bit_and, map}
use Rattle.hex.specs.Hex.{hex_digit_value, is_hex_digit}
use Rattle.hex.proofs.Pairs.{drop-pair}
use Rattle.dump_lines.specs.Words.{spelled_by}
use Rattle.std.proofs.lemmas.Nat.{and_block, and_mask}
use Rattle.std.proofs.NetLemmas.Arrays.{eight_items}
use Rattle.std.specs.Int.{w32, w64, from_le_bytes, to_le_bytes}

-- the value of a digit: its low four bits, and 9 more for a letter
abbrev value : ℕ → ℕ
value x = x % 16 + 9 * (x / 64)

abbrev IsDigit : ℕ → Type 0
IsDigit x = is_hex_digit x ≡ true

value_is : (x : ℕ) → IsDigit x → hex_digit_value x ≡ Some (value x)
value_is x is = grind arith

value_of : (x v : ℕ) → hex_digit_value x ≡ Some v → v ≡ value x
value_of x v is = grind arith

-- the octets that digits spell
abbrev pub octets_of : List ℕ → List ℕ
octets_of [] = []
octets_of (digit ∷ []) = []
octets_of (high ∷ low ∷ rest) = (value high * 16 + value low) ∷ octets_of rest

spelled : (text : List ℕ) → length text % 2 ≡ 0 → AllPass is_hex_digit text → spelled_by text ≡ Some (octets_of text)
spelled [] even all = refl
spelled (digit ∷ []) even all = absurd (omega arith)
spelled (high ∷ low ∷ rest) even all =
    let behind = All-tail IsDigit high (low ∷ rest) all in
    let more = spelled rest (omega arith) (All-tail IsDigit low rest behind) in
    rw (value_is high (All-head IsDigit high (low ∷ rest) all), value_is low (All-head IsDigit low rest behind), more)
    refl

octets_of-append : (front rest : List ℕ) → length front % 2 ≡ 0
    → octets_of (front ++ rest) ≡ octets_of front ++ octets_of rest
octets_of-append [] rest even = refl
octets_of-append (digit ∷ []) rest even = absurd (omega arith)
octets_of-append (high ∷ low ∷ front) rest even =
    ap (λ octets. (value high * 16 + value low) ∷ octets) (octets_of-append front rest (omega arith))

-- the octets of some digits more, after those that are written
more : (text octets after digits : List ℕ) (i j k l : ℕ) → length digits % 2 ≡ 0
    → drop j text ≡ digits ++ drop l text → take k after ≡ take i octets ++ octets_of digits
    → take i octets ++ octets_of (drop j text) ≡ octets_of text
    → take k after ++ octets_of (drop l text) ≡ octets_of text
more text octets after digits i j k l even cut written so_far =
    rw (written, append_assoc, ← octets_of-append digits (drop l text) even, ← cut) so_far

pub one_more : (text octets : List ℕ) (i high low octet : ℕ) → 2 * i + 1 < length text → i < length octets
    → hex_digit_value (slice_index text (2 * i)) ≡ Some high
    → hex_digit_value (slice_index text (2 * i + 1)) ≡ Some low → octet ≡ 16 * high + low
    → take i octets ++ octets_of (drop (2 * i) text) ≡ octets_of text
    → take (i + 1) (slice_set octets i octet) ++ octets_of (drop (2 * (i + 1)) text) ≡ octets_of text
one_more text octets i high low octet within packet_buffer is_high is_low is so_far =
    let digits = slice_index text (2 * i) ∷ slice_index text (2 * i + 1) ∷ [] in
    let first = value_of (slice_index text (2 * i)) high is_high in
    let second = value_of (slice_index text (2 * i + 1)) low is_low in
    let same : octet ∷ [] ≡ octets_of digits = ap (λ (o : ℕ). o ∷ []) (omega (arith, first, second)) in
    more text octets (slice_set octets i octet) digits i (2 * i) (i + 1) (2 * (i + 1)) refl (drop-pair text i within)
    (take_more_set octets i octet packet_buffer ∙ ap (λ (behind : List ℕ). take i octets ++ behind) same) so_far

-- eight digits
module _ (text digits : List ℕ) (i : ℕ) (is : digits ≡ take 8 (take (length text - 8 * i) (drop (8 * i) text)))
    (all : list_all is_hex_digit text ≡ true) where
  pub eight_digits : AllPass is_hex_digit digits
  eight_digits =
      rw is
      (All-take IsDigit 8 (take (length text - 8 * i) (drop (8 * i) text))
      (All-take IsDigit (length text - 8 * i) (drop (8 * i) text)
      (All-drop IsDigit (8 * i) text (AllPass-from_list_all is_hex_digit text all))))

  pub four_more : (octets four : List ℕ) → 8 * i + 8 ≤ length text → 4 * i ≤ length octets
      → length four ≡ 4 → spelled_by digits ≡ Some four
      → take (4 * i) octets ++ octets_of (drop (8 * i) text) ≡ octets_of text
      → take (4 * (i + 1)) (put_mid (4 * i) (4 * i + 4 - 4 * i) octets four) ++ octets_of (drop (8 * (i + 1)) text)
      ≡ octets_of text
  four_more octets four within packet_buffer long spells so_far =
      let rest = drop (8 * i) text in
      let left = length-drop (8 * i) text in
      let front : digits ≡ take 8 rest = is ∙ ap (take 8) (take_all (length text - 8 * i) rest (omega (arith, left))) in
      let eight = ap length front ∙ length-take-le 8 rest (omega (arith, left)) in
      let next : 8 * i + 8 ≡ 8 * (i + 1) = omega arith in
      let cut : rest ≡ digits ++ drop (8 * (i + 1)) text =
      rw (front, ← next, ← drop-drop 8 (8 * i) text) (sym (take-append-drop 8 rest)) in
      let same : four ≡ octets_of digits = let known = spelled digits (omega (arith, eight)) eight_digits in cc in
      more text octets _ digits (4 * i) (8 * i) (4 * (i + 1)) (8 * (i + 1)) (omega (arith, eight)) cut
      (take-put_mid (4 * i) (4 * i + 4 - 4 * i) octets four (4 * (i + 1)) (omega (arith, long)) packet_buffer
      ∙ ap (λ (behind : List ℕ). take (4 * i) octets ++ behind) same) so_far

-- all octets
pub all_spelled : (text octets : List ℕ) (i : ℕ) → length octets ≤ i → length text ≡ 2 * length octets
    → list_all is_hex_digit text ≡ true → take i octets ++ octets_of (drop (2 * i) text) ≡ octets_of text
    → spelled_by text ≡ Some octets
all_spelled text octets i all even are so_far =
    spelled text (omega arith) (AllPass-from_list_all is_hex_digit text are)
    ∙ ap Some (sym so_far
    ∙ ap (λ (rest : List ℕ). take i octets ++ octets_of rest) (drop_all (2 * i) text (omega arith))
    ∙ append-nil (take i octets) ∙ take_all i octets all)

-- ---- digits as the octets of a word

-- numbers in places of this size, the first of them in the lowest
abbrev places : ℕ → List ℕ → ℕ
places size [] = 0
places size (x ∷ xs) = places size xs * size + x

abbrev word : List ℕ → ℕ
word xs = places 256 xs

digit_small : (x : ℕ) → IsDigit x → x < 128
digit_small x is = grind arith

value_small : (x : ℕ) → IsDigit x → value x < 16
value_small x is = grind arith

-- the low four bits of an octet after others
low_step : (n m x : ℕ) → x < 128 → bit_and (n * 256 + x) (m * 256 + 15) ≡ bit_and n m * 256 + x % 16
low_step n m x small = rw (and_block 8 n m x 15 (omega (arith, small)) (omega arith), and_mask x 4) refl

-- its bit of 64, moved to the lowest
high_step : (n m x : ℕ) → x < 128 → bit_and ((n * 256 + x) / 64) (m * 256 + 1) ≡ bit_and (n / 64) m * 256 + x / 64
high_step n m x small =
    let moved : (n * 256 + x) / 64 ≡ n / 64 * 256 + (n % 64 * 4 + x / 64) = omega arith in
    rw (
      moved,
      and_block 8 (n / 64) m (n % 64 * 4 + x / 64) 1 (omega (arith, small)) (omega arith),
      and_mask (n % 64 * 4 + x / 64) 1,
    ) (omega (arith, small))

-- the values of digits
word_values : (xs : List ℕ) → AllPass is_hex_digit xs
    → bit_and (word xs) (word (map (λ x. 15) xs)) + 9 * bit_and (word xs / 64) (word (map (λ x. 1) xs))
    ≡ word (map value xs)
word_values [] all = refl
word_values (x ∷ xs) all =
    let small = digit_small x (All-head IsDigit x xs all) in
    rw (low_step (word xs) (word (map (λ x. 15) xs)) x small, high_step (word xs) (word (map (λ x. 1) xs)) x small)
    (omega (arith, word_values xs (All-tail IsDigit x xs all)))

-- the lowest value
lowest_small : (xs : List ℕ) → AllPass is_hex_digit xs → word (map value xs) % 256 < 16
lowest_small [] all = omega arith
lowest_small (x ∷ xs) all = omega (arith, value_small x (All-head IsDigit x xs all))

values_within : (xs : List ℕ) → AllPass is_hex_digit xs → word (map value xs) ≤ word (map (λ x. 15) xs)
values_within [] all = omega arith
values_within (x ∷ xs) all =
    omega (arith, value_small x (All-head IsDigit x xs all), values_within xs (All-tail IsDigit x xs all))

-- of two values, the octet after those of others
octet_step : (n m v w : ℕ) → v < 16 → w < 16 → n % 256 < 16
    → bit_and (16 * ((n * 256 + w) * 256 + v) + ((n * 256 + w) * 256 + v) / 256) (m * 65536 + 255)
    ≡ bit_and (16 * n + n / 256) m * 65536 + (v * 16 + w)
octet_step n m v w hv hw hn =
    let low = (n % 256 + 16 * w) * 256 + (16 * v + w) in
    let parts : 16 * ((n * 256 + w) * 256 + v) + ((n * 256 + w) * 256 + v) / 256 ≡ (16 * n + n / 256) * 65536 + low =
    omega arith in
    rw (parts, and_block 16 (16 * n + n / 256) m low 255 (omega arith) (omega arith), and_mask low 8) (omega arith)

word_octets : (xs : List ℕ) → length xs % 2 ≡ 0 → AllPass is_hex_digit xs
    → bit_and (16 * word (map value xs) + word (map value xs) / 256) (places 65536 (map (λ o. 255) (octets_of xs)))
    ≡ places 65536 (octets_of xs)
word_octets [] even all = refl
word_octets (x ∷ []) even all = absurd (omega arith)
word_octets (x ∷ y ∷ xs) even all =
    let behind = All-tail IsDigit x (y ∷ xs) all in
    let rest = All-tail IsDigit y xs behind in
    octet_step (word (map value xs)) (places 65536 (map (λ o. 255) (octets_of xs))) (value x) (value y)
    (value_small x (All-head IsDigit x (y ∷ xs) all)) (value_small y (All-head IsDigit y xs behind))
    (lowest_small xs rest)
    ∙ ap (λ l. l * 65536 + (value x * 16 + value y)) (word_octets xs (omega arith) rest)

-- four octets, moved together
abbrev whole_of : ℕ → ℕ
whole_of pairs = (pairs % 65536 + pairs / 4294967296 * 65536) % 4294967296

together : (n p q r s : ℕ) → n ≡ places 65536 (p ∷ q ∷ r ∷ s ∷ []) → p < 256 → q < 256 → r < 256 → s < 256
    → to_le_bytes w32 (whole_of (n + n / 256)) ≡ p ∷ q ∷ r ∷ s ∷ []
together n p q r s is hp hq hr hs =
    let pairs : n + n / 256
    ≡ (s * 65536 + s * 256 + r) * 4294967296 + (r * 16777216 + q * 65536 + q * 256 + p) = omega arith in
    let whole : whole_of (n + n / 256) ≡ ((s * 256 + r) * 256 + q) * 256 + p = omega arith in
    rw whole (grind arith)

abbrev values_in : ℕ → ℕ
values_in n = bit_and n 1085102592571150095 + 9 * bit_and (n / 64) 72340172838076673

abbrev octets_in : ℕ → ℕ
octets_in v = bit_and (16 * v + v / 256) 71777214294589695

module _ (digits : List ℕ) (eight : length digits ≡ 8) (all : AllPass is_hex_digit digits) (n : ℕ)
    (is : n ≡ from_le_bytes w64 digits) where
  abbrev at : ℕ → ℕ
  at i = get_or digits i 0

  abbrev items : List ℕ
  items = at 0 ∷ at 1 ∷ at 2 ∷ at 3 ∷ at 4 ∷ at 5 ∷ at 6 ∷ at 7 ∷ []

  are : AllPass is_hex_digit items
  are = subst (AllPass is_hex_digit) (eight_items digits eight) all

  values_are : values_in n ≡ word (map value items)
  values_are =
      let whole : n ≡ word items = omega (arith, is) in
      rw whole (word_values items are)

  pub joined_in_word : 16 * values_in n + values_in n / 256 < 18446744073709551616
  joined_in_word = omega (arith, values_are, values_within items are)

  octets_are : octets_in (values_in n) ≡ places 65536 (octets_of items)
  octets_are = rw values_are (word_octets items refl are)

  octet_small : (i j : ℕ) → i < 8 → j < 8 → value (get_or items i 0) * 16 + value (get_or items j 0) < 256
  octet_small i j hi hj =
      omega (arith, value_small (get_or items i 0) (are i 0 hi), value_small (get_or items j 0) (are j 0 hj))

  pub decoded : spelled_by digits
      ≡ Some (to_le_bytes w32 (whole_of (octets_in (values_in n) + octets_in (values_in n) / 256)))
  decoded =
      ap spelled_by (eight_items digits eight) ∙ spelled items refl are
      ∙ ap Some
      (sym (together (octets_in (values_in n)) _ _ _ _ octets_are (octet_small 0 1 (omega arith) (omega arith))
      (octet_small 2 3 (omega arith) (omega arith)) (octet_small 4 5 (omega arith) (omega arith))
      (octet_small 6 7 (omega arith) (omega arith))))
