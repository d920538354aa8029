-- Texts that are put together piece by piece.
use Rattle.wirebase.proofs.Words.{◌≡◌, ◌+◌, ◌-◌, ◌/◌, ◌%◌, ◌<◌, ◌≤◌, [], ◌∷◌, ◌++◌, ◌∙◌, ◌==◌, List, ℕ, ⊎_elim, ap}
use Rattle.wirebase.proofs.Words.{append_assoc, arith, cases_lt, digit_char, drop, false, groups_text, hex}
use Rattle.wirebase.proofs.Words.{hex_groups_text, le-leb, length, length-append, length-drop, longest_zero_run, lt-leb}
use Rattle.wirebase.proofs.Words.{lt-ltb, put_mid, refl, set, sym, take, take-append-add, take-put_mid, take-set_at}
use Rattle.wirebase.proofs.Words.{take-take, take_all, take_more_set}
use Rattle.std.proofs.Common.{length-take-le}
use Rattle.std.proofs.lemmas.Bool.{le-ltb}
use Rattle.std.proofs.lemmas.List.{length-set}
use Rattle.std.proofs.Math.Seq.{take-append_seam}
use Rattle.std.specs.Prelude.{codes}
use Rattle.std.specs.List.{flat_map}

-- ---- octets in their place

-- the text without the octet at its end
pub cut_last : (room text : List ℕ) (end octet : ℕ) → end ≤ length room → take end room ≡ text ++ octet ∷ []
    → take (end - 1) room ≡ text
cut_last room text end octet within is =
    let front = length-take-le end room within in
    let long : end ≡ length text + 1 = sym front ∙ ap length is ∙ length-append text (octet ∷ []) in
    let last : end - 1 ≡ length text = omega arith in
    sym (take-take (end - 1) end room (omega arith)) ∙ ap (take (end - 1)) is
    ∙ ap (λ n. take n (text ++ octet ∷ [])) last ∙ take-append_seam text (octet ∷ [])

-- two octets that are set one after the other
pub two_set : (room : List ℕ) (at x y : ℕ) → at + 1 < length room
    → take (at + 2) (set (set room at x) (at + 1) y) ≡ take at room ++ x ∷ y ∷ []
two_set room at x y within =
    take-set_at (set room at x) (at + 1) (at + 2) y (omega arith) (omega (arith, length-set room at x))
    ∙ rw (take_more_set room at x (omega arith)) (simp append_assoc)

-- four octets of which some count
pub four_put : (room four text : List ℕ) (at len end : ℕ) → at + 4 ≤ length room → length four ≡ 4 → len ≤ 4
    → end ≡ at + len → take len four ≡ text → take end (put_mid at 4 room four) ≡ take at room ++ text
four_put room four text at len end fits long within ends is =
    let front = length-take-le at room (omega arith) in
    let all = take-put_mid at 4 room four (at + 4) (omega arith) (omega arith) in
    ap (λ n. take n (put_mid at 4 room four)) ends
    ∙ sym (take-take (at + len) (at + 4) (put_mid at 4 room four) (omega arith))
    ∙ ap (take (at + len)) all ∙ rw front at (take-append-add (take at room) four len)
    ∙ ap (λ t. take at room ++ t) is

-- a digit after those before it
pub behind_others : (room before others whole : List ℕ) (at place digit : ℕ) → place ≡ at + 1 → place < length room
    → whole ≡ others ++ digit ∷ [] → take (at + 1) room ≡ before ++ others
    → take (place + 1) (set room place digit) ≡ before ++ whole
behind_others room before others whole at place digit here within is front =
    let kept : take place room ≡ before ++ others = rw here front in
    take_more_set room place digit within ∙ rw (kept, is) (simp append_assoc)

-- and a digit that replaces a single zero
pub over_zero : (room before others whole : List ℕ) (at place none digit : ℕ) → place ≡ at → place < length room
    → others ≡ none ∷ [] → whole ≡ digit ∷ [] → take (at + 1) room ≡ before ++ others
    → take (place + 1) (set room place digit) ≡ before ++ whole
over_zero room before others whole at place none digit here within lone is front =
    let same : at + 1 - 1 ≡ place = omega (arith, here) in
    let kept = cut_last room before (at + 1) none (omega (arith, here, within)) (rw lone at front) in
    let before_it : take place room ≡ before = rw same at kept in
    take_more_set room place digit within ∙ rw (before_it, is) refl

-- three texts one after another
pub three_parts : (kept x y z whole first second third : List ℕ) → first ≡ kept ++ x → second ≡ first ++ y
    → third ≡ second ++ z → x ++ y ++ z ≡ whole → third ≡ kept ++ whole
three_parts kept x y z whole first second third a b c is = rw (c, b, a, ← is) (simp append_assoc)

-- ---- groups

-- a group and a colon
abbrev pub colon_text : ℕ → List ℕ
colon_text group = hex group ++ codes ":"

-- colons after the groups in the place of those before them
colons : (groups : List ℕ) → flat_map (λ t. codes ":" ++ hex t) groups ++ codes ":"
    ≡ codes ":" ++ flat_map colon_text groups
colons [] = refl
colons (group ∷ groups) =
    simp append_assoc (ap (λ more. codes ":" ++ (hex group ++ more)) (colons groups))

pub groups_colon : (group : ℕ) (groups : List ℕ)
    → flat_map colon_text (group ∷ groups) ≡ groups_text (group ∷ groups) ++ codes ":"
groups_colon group groups =
    simp append_assoc (ap (λ more. hex group ++ more) (sym (colons groups)))

-- the groups and their colons, but for the last
pub groups_end : (room front groups : List ℕ) (end index : ℕ) → length groups ≤ index
    → (length groups == 0) ≡ false → end ≤ length room
    → take end room ≡ front ++ flat_map colon_text (take index groups)
    → take (end - 1) room ≡ front ++ groups_text groups
groups_end room front [] end index all some within is = absurd (cc some)
groups_end room front (group ∷ groups) end index all some within is =
    let whole = rw (take_all index (group ∷ groups) all, groups_colon group groups, ← append_assoc) at is in
    cut_last room (front ++ groups_text (group ∷ groups)) end 58 within whole

-- what follows a run is all that is left
pub behind_run : (groups : List ℕ) (k : ℕ) → length groups ≡ 8 → take (8 - k) (drop k groups) ≡ drop k groups
behind_run groups k eight = take_all (8 - k) (drop k groups) (omega (arith, length-drop k groups))

-- an address by its longest run of zeros
pub short_run : (groups : List ℕ) (len : ℕ) → len ≡ (longest_zero_run groups).1 → len < 2
    → groups_text groups ≡ hex_groups_text groups
unfolding hex_groups_text
short_run groups len is few = rw (le-ltb 1 (longest_zero_run groups).1 (omega (arith, is))) refl

pub long_run : (groups : List ℕ) (start len : ℕ) → start ≡ (longest_zero_run groups).0
    → len ≡ (longest_zero_run groups).1 → 2 ≤ len
    → groups_text (take start groups) ++ codes "::" ++ groups_text (drop (start + len) groups) ≡ hex_groups_text groups
unfolding hex_groups_text
long_run groups start len begins is many =
    rw (begins, is, lt-ltb 1 (longest_zero_run groups).1 (omega (arith, is))) refl

-- a group of one digit
pub hex_digit : (n : ℕ) → n < 16 → hex n ≡ digit_char n ∷ []
unfolding hex
hex_digit n small =
    let last : n % 16 ≡ n = omega arith in
    rw (lt-leb 0x1000 n (omega arith), lt-leb 0x100 n (omega arith), lt-leb 0x10 n small, last) refl

-- its last digit follows those of its sixteenth: where it has two digits, three or four
hex_two : (n : ℕ) → 0x10 ≤ n → n < 0x100 → hex n ≡ hex (n / 16) ++ digit_char (n % 16) ∷ []
unfolding hex
hex_two n more few =
    let third : n / 16 % 16 ≡ n / 0x10 % 16 = omega arith in
    rw (
      lt-leb 0x1000 n (omega arith),
      lt-leb 0x100 n few,
      le-leb 0x10 n more,
      lt-leb 0x1000 (n / 16) (omega arith),
      lt-leb 0x100 (n / 16) (omega arith),
      lt-leb 0x10 (n / 16) (omega arith),
      third,
    ) refl

hex_three : (n : ℕ) → 0x100 ≤ n → n < 0x1000 → hex n ≡ hex (n / 16) ++ digit_char (n % 16) ∷ []
unfolding hex
hex_three n more few =
    let second : n / 16 / 0x10 % 16 ≡ n / 0x100 % 16 = omega arith in
    let third : n / 16 % 16 ≡ n / 0x10 % 16 = omega arith in
    rw (
      lt-leb 0x1000 n few,
      le-leb 0x100 n more,
      lt-leb 0x1000 (n / 16) (omega arith),
      lt-leb 0x100 (n / 16) (omega arith),
      le-leb 0x10 (n / 16) (omega arith),
      second,
      third,
    ) refl

hex_four : (n : ℕ) → 0x1000 ≤ n → n < 0x10000 → hex n ≡ hex (n / 16) ++ digit_char (n % 16) ∷ []
unfolding hex
hex_four n more few =
    let first : n / 16 / 0x100 % 16 ≡ n / 0x1000 = omega arith in
    let second : n / 16 / 0x10 % 16 ≡ n / 0x100 % 16 = omega arith in
    let third : n / 16 % 16 ≡ n / 0x10 % 16 = omega arith in
    rw (
      le-leb 0x1000 n more,
      lt-leb 0x1000 (n / 16) (omega arith),
      le-leb 0x100 (n / 16) (omega arith),
      first,
      second,
      third,
    ) refl

pub hex_step : (n : ℕ) → 0x10 ≤ n → n < 0x10000 → hex n ≡ hex (n / 16) ++ digit_char (n % 16) ∷ []
hex_step n more fits =
    ⊎_elim (hex_two n more)
    (λ above. ⊎_elim (hex_three n above) (λ large. hex_four n large fits) (cases_lt n 0x1000)) (cases_lt n 0x100)

-- ---- endpoints

-- four numbers with a dot after each
pub four_numbers : (a b c d first second third last : List ℕ) → first ≡ a ++ codes "."
    → second ≡ first ++ (b ++ codes ".") → third ≡ second ++ (c ++ codes ".") → last ≡ third ++ (d ++ codes ".")
    → last ≡ (a ++ codes "." ++ b ++ codes "." ++ c ++ codes "." ++ d) ++ codes "."
four_numbers a b c d first second third last e f g h = rw (h, g, f, e) (simp append_assoc)

-- an address in brackets, a colon and a port
pub in_brackets : (address port first second third last : List ℕ) → first ≡ codes "[" → second ≡ first ++ address
    → third ≡ second ++ codes "]:" → last ≡ third ++ port → last ≡ codes "[" ++ address ++ codes "]:" ++ port
in_brackets address port first second third last e f g h = rw (h, g, f, e) refl
