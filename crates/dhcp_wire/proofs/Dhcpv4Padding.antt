-- Padding that is passed over eight octets at a time.
use Rattle.dhcp_wire.proofs.Words.{[], ◌*◌, ◌+◌, ◌-◌, ◌/◌, ◌<◌, ◌^◌, ◌∙◌, ◌∷◌, ◌≡◌, ◌≢◌, ◌≤◌, HasNoPadding, IsBytes}
use Rattle.dhcp_wire.proofs.Words.{List, ℕ, ap, arith, cases_lt, drop, inl, inr, length, list_of, little_from-cons}
use Rattle.dhcp_wire.proofs.Words.{little_from-lt, little_number, refl, subst, suc, sym, take, take_rest, zero}
use Rattle.std.proofs.lemmas.Nat.Bits.{bit_at-zero, bit_at_cat_low, bit_at_cat_high, same_from_bits_below}
use Rattle.std.proofs.lemmas.Nat.Bits.{bit_at-trailing_zeros}
use Rattle.std.specs.Int.{w64, bit_at, trailing_zeros}
use Rattle.dhcp_wire.proofs.Dhcpv4Lists.{list-padding}

-- a number by its lowest octet
by_first : (k b : ℕ) (rest : List ℕ) → little_number (suc k) (b ∷ rest) ≡ little_number k rest * 2 ^ 8 + b
by_first k b rest = omega (arith, little_from-cons 0 k b rest)

behind : (b : ℕ) (rest : List ℕ) → b ≡ 0 → list_of rest ≡ list_of (b ∷ rest)
behind b rest e = sym (list-padding rest) ∙ ap (λ (k : ℕ). list_of (k ∷ rest)) (sym e)

-- octets whose number is 0 are padding
all_padding : (k : ℕ) (bytes : List ℕ) → k ≤ length bytes → little_number k bytes ≡ 0
    → list_of (drop k bytes) ≡ list_of bytes
all_padding zero bytes l e = refl
all_padding (suc k) [] l e = absurd (omega arith)
all_padding (suc k) (b ∷ rest) l e =
    let none : little_number k rest ≡ 0 = omega (arith, by_first k b rest, e) in
    let first : b ≡ 0 = omega (arith, by_first k b rest, e) in
    all_padding k rest (omega arith) none ∙ behind b rest first

-- the options of bytes from where their padding ends on
pub record Begins (bytes rest : List ℕ) : Type 0 where
  pub same : list_of rest ≡ list_of bytes
  pub none : HasNoPadding rest

-- t is the place of the lowest 1
abbrev IsLowest : ℕ → ℕ → Type 0
IsLowest n t = (bit_at n t ≡ 1) × ((i : ℕ) → i < t → bit_at n i ≡ 0)

-- an octet that has a 1
no_padding : (n b t : ℕ) → t < 8 → bit_at (n * 2 ^ 8 + b) t ≡ 1 → b ≢ 0
no_padding n b t l set e =
    let none : bit_at b t ≡ 0 = ap (λ (x : ℕ). bit_at x t) e ∙ bit_at-zero t in
    let one : bit_at b t ≡ 1 = sym (bit_at_cat_low n 8 b t l) ∙ set in
    omega (arith, none, one)

-- an octet that has none
is_padding : (n b t : ℕ) → b < 256 → 8 ≤ t → ((i : ℕ) → i < t → bit_at (n * 2 ^ 8 + b) i ≡ 0) → b ≡ 0
is_padding n b t small l low =
    same_from_bits_below 8 b 0 (omega arith) (omega arith) (λ i k.
    sym (bit_at_cat_low n 8 b i k) ∙ low i (omega arith) ∙ sym (bit_at-zero i))

-- a bit of the octets after the first
next_bit : (n b i : ℕ) → b < 256 → bit_at n i ≡ bit_at (n * 2 ^ 8 + b) (8 + i)
next_bit n b i small =
    let place : i ≡ 8 + i - 8 = omega arith in
    ap (bit_at n) place ∙ sym (bit_at_cat_high n 8 b (8 + i) (omega arith) (omega arith))

next_lowest : (n b t : ℕ) → b < 256 → 8 ≤ t → IsLowest (n * 2 ^ 8 + b) t → IsLowest n (t - 8)
next_lowest n b t small l h =
    let place : 8 + (t - 8) ≡ t = omega arith in (
      next_bit n b (t - 8) small ∙ ap (bit_at (n * 2 ^ 8 + b)) place ∙ h.0,
      λ i k. next_bit n b i small ∙ h.1 (8 + i) (omega arith),
    )

-- octets, of which as many are padding as there are below the lowest 1 of their number
some_padding : (k : ℕ) (bytes : List ℕ) (t : ℕ) → k ≤ length bytes → IsBytes bytes
    → IsLowest (little_number k bytes) t → Begins bytes (drop (t / 8) bytes)
some_padding zero bytes t l are h = let none : bit_at 0 t ≡ 0 = bit_at-zero t in absurd (omega (arith, none, h.0))
some_padding (suc k) [] t l are h = absurd (omega arith)
some_padding (suc k) (b ∷ rest) t l are h =
    let n : ℕ = little_number k rest in
    let small : b < 256 = are 0 in
    let whole : IsLowest (n * 2 ^ 8 + b) t = subst (λ (x : ℕ). IsLowest x t) (by_first k b rest) h in
    elim (cases_lt t 8) as (λ _. Begins (b ∷ rest) (drop (t / 8) (b ∷ rest))) [
      | inl short ↦
          let here : 0 ≡ t / 8 = omega arith in
          subst (λ (i : ℕ). Begins (b ∷ rest) (drop i (b ∷ rest))) here
          (record { same = refl; none = λ other e. no_padding n b t short whole.0 cc })
      | inr long ↦
          let there : suc ((t - 8) / 8) ≡ t / 8 = omega arith in
          let first : b ≡ 0 = is_padding n b t small long whole.1 in
          let more = some_padding k rest (t - 8) (omega arith) (λ i. are (suc i))
          (next_lowest n b t small long whole) in
          subst (λ (i : ℕ). Begins (b ∷ rest) (drop i (b ∷ rest))) there
          (record { same = more.same ∙ behind b rest first; none = more.none })
    ]

-- a word that isn't 0
pub word_begins : (bytes : List ℕ) (word : ℕ) → 8 ≤ length bytes → IsBytes bytes → word ≡ little_number 8 bytes
    → word ≢ 0
    → Begins bytes (take (length bytes - trailing_zeros w64 word / 8) (drop (trailing_zeros w64 word / 8) bytes))
word_begins bytes word l are is some =
    let t : ℕ = trailing_zeros w64 word in
    let above : 0 < word = omega (arith, some) in
    let below : word < 2 ^ 64 = omega (arith, is, little_from-lt 0 8 bytes are) in
    let lowest = bit_at-trailing_zeros w64 word above below in
    subst (λ (rest : List ℕ). Begins bytes rest) (sym (take_rest bytes (t / 8)))
    (some_padding 8 bytes t l are (subst (λ (n : ℕ). IsLowest n t) is (lowest.1, lowest.2)))

-- a word of padding
pub word_passes : (bytes : List ℕ) (word : ℕ) → 8 ≤ length bytes → word ≡ little_number 8 bytes → word ≡ 0
    → list_of (take (length bytes - 8) (drop 8 bytes)) ≡ list_of bytes
word_passes bytes word l is none =
    ap list_of (take_rest bytes 8) ∙ all_padding 8 bytes l (sym is ∙ none)
