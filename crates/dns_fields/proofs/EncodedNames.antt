-- The bytes of a name that are decoded one after another.
use Rattle.std.proofs.Common.{◌≡◌, ◌∙◌, ◌+◌, ◌-◌, ◌*◌, ◌/◌, ◌%◌, ◌<◌, ◌≤◌, ◌∷◌, ◌++◌, Bool, List, ℕ, ap}
use Rattle.std.proofs.Common.{append_assoc, arith, codes, drop, false, length, refl, slice_index, sym, take, true}
use Rattle.std.proofs.lemmas.List.{append-nil, drop_all, drop_more, take_all, take_more_set}
use Rattle.std.specs.Char.{is_ascii_graphic}
use Rattle.std.specs.Prelude.{decimal, slice_set}
use Rattle.record_wire.specs.Escapes.{written_by}
use Rattle.record_wire.specs.NameText.{character, is_special}
use Rattle.dns_fields.specs.Netbios.{decoded, is_encoded}
use Rattle.dns_fields.specs.private.Digits.{three_digits}

pub label_len : (label : List ℕ) → is_encoded label ≡ true → length label ≡ 32
label_len label is = grind arith

-- two letters, and those behind them
next_pair : (label : List ℕ) (i : ℕ) → 2 * i + 1 < length label
    → drop (2 * i) label ≡ slice_index label (2 * i) ∷ slice_index label (2 * i + 1) ∷ drop (2 * (i + 1)) label
next_pair label i within =
    let high = drop_more label (2 * i) 0 (omega arith) in
    let low = drop_more label (2 * i + 1) 0 (omega arith) in
    let two : 2 * i + 1 + 1 ≡ 2 * (i + 1) = omega arith in
    rw (high, low, two) refl

pub one_more : (label bytes : List ℕ) (i byte : ℕ) → 2 * i + 1 < length label → i < length bytes
    → byte ≡ 16 * (slice_index label (2 * i) - 65) + (slice_index label (2 * i + 1) - 65)
    → take i bytes ++ decoded (drop (2 * i) label) ≡ decoded label
    → take (i + 1) (slice_set bytes i byte) ++ decoded (drop (2 * (i + 1)) label) ≡ decoded label
one_more label bytes i byte within room is so_far =
    let rest = decoded (drop (2 * (i + 1)) label) in
    let next : decoded (drop (2 * i) label) ≡ byte ∷ rest =
    ap decoded (next_pair label i within) ∙ ap (λ (b : ℕ). b ∷ rest) (sym is) in
    rw (take_more_set bytes i byte room, append_assoc)
    (ap (λ (more : List ℕ). take i bytes ++ more) (sym next) ∙ so_far)

pub all_decoded : (label bytes : List ℕ) (i : ℕ) → length bytes ≤ i → length label ≤ 2 * i
    → take i bytes ++ decoded (drop (2 * i) label) ≡ decoded label → bytes ≡ decoded label
all_decoded label bytes i all none so_far =
    sym (ap (λ (rest : List ℕ). take i bytes ++ decoded rest) (drop_all (2 * i) label none) ∙ append-nil (take i bytes)
    ∙ take_all i bytes all) ∙ so_far

-- ---- the text of a byte that is not visible

by_number : (byte : ℕ) (special visible : Bool) → special ≡ false → visible ≡ false
    → codes "\\" ++ three_digits byte ≡ written_by special visible byte
by_number byte special visible plain hidden =
    rw (plain, hidden)
    (ap (λ (digits : List ℕ). 92 ∷ digits)
    (sym (append_assoc (decimal (byte / 100)) (decimal (byte / 10 % 10)) (decimal (byte % 10)))))

pub hidden_text : (byte : ℕ) → is_special byte ≡ false → is_ascii_graphic byte ≡ false
    → codes "\\" ++ three_digits byte ≡ character byte
hidden_text byte plain hidden = by_number byte (is_special byte) (is_ascii_graphic byte) plain hidden
