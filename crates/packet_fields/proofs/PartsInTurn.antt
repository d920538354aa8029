-- Parts in turn.
use Rattle.std.proofs.Common.{◌≡◌, ◌-◌, ◌≤◌, ◌<◌, [], ◌∷◌, List, ℕ, arith, drop, length, refl, suc, take, zero}
use Rattle.std.proofs.Common.{◌∙◌, ap, sym}
use Rattle.std.proofs.lemmas.List.{length-drop}
use Rattle.std.specs.Prelude.{map}
use Rattle.packet_fields.specs.Parts.{parts, behind}
use Rattle.packet_fields.specs.Texts.{address_len, address_text, addresses}

module _ (len : List ℕ → ℕ) where
  -- the first of them
  pub first_part : (count : ℕ) (bytes part others : List ℕ) → 0 < count → 0 < length bytes
      → part ≡ take (len bytes) bytes → others ≡ drop (len bytes) bytes
      → parts len count bytes ≡ part ∷ parts len (count - 1) others
  first_part zero bytes part others some any part_is others_is = absurd (omega (arith, some))
  first_part (suc count) [] part others some any part_is others_is = absurd (omega (arith, any))
  first_part (suc count) (b ∷ bs) part others some any part_is others_is =
      let e : suc count - 1 ≡ count = omega arith in rw (part_is, others_is, e) refl

  -- there are none
  pub no_parts : (count : ℕ) (bytes : List ℕ) → count ≡ 0 → parts len count bytes ≡ []
  no_parts zero bytes none = refl
  no_parts (suc count) bytes none = absurd (omega (arith, none))

  pub no_octets : (count : ℕ) (bytes : List ℕ) → length bytes ≡ 0 → parts len count bytes ≡ []
  no_octets zero bytes none = refl
  no_octets (suc count) [] none = refl
  no_octets (suc count) (b ∷ bs) none = absurd (omega (arith, none))

  -- what stands behind them
  pub behind_first : (count : ℕ) (bytes others : List ℕ) → 0 < count → 0 < length bytes
      → others ≡ drop (len bytes) bytes → behind len count bytes ≡ behind len (count - 1) others
  behind_first zero bytes others some any others_is = absurd (omega (arith, some))
  behind_first (suc count) [] others some any others_is = absurd (omega (arith, any))
  behind_first (suc count) (b ∷ bs) others some any others_is =
      let e : suc count - 1 ≡ count = omega arith in rw (others_is, e) refl

-- how many octets do not matter where there are enough for all parts of one octet or more
pub enough : (len : List ℕ → ℕ) → ((bytes : List ℕ) → 1 ≤ length bytes → 1 ≤ len bytes) → (n m : ℕ) (bytes : List ℕ)
    → length bytes ≤ n → length bytes ≤ m → parts len n bytes ≡ parts len m bytes
enough len some n m [] small also = no_octets len n [] refl ∙ sym (no_octets len m [] refl)
enough len some zero m (b ∷ bs) small also = absurd (omega (arith, small))
enough len some (suc n) zero (b ∷ bs) small also = absurd (omega (arith, also))
enough len some (suc n) (suc m) (b ∷ bs) small also =
    let one = some (b ∷ bs) (omega arith) in
    let fewer = length-drop (len (b ∷ bs)) (b ∷ bs) in
    ap (λ more. take (len (b ∷ bs)) (b ∷ bs) ∷ more)
    (enough len some n m (drop (len (b ∷ bs)) (b ∷ bs)) (omega (arith, fewer)) (omega (arith, fewer)))

some_octets : (width : ℕ) → 1 ≤ width → (bytes : List ℕ) → 1 ≤ length bytes → 1 ≤ address_len width bytes
some_octets width wide bytes any = grind arith

-- the first of some addresses
pub addresses_first : (width : ℕ) (bytes part others : List ℕ) → 1 ≤ width → 0 < length bytes
    → part ≡ take (address_len width bytes) bytes → others ≡ drop (address_len width bytes) bytes
    → addresses width bytes ≡ address_text part ∷ addresses width others
addresses_first width [] part others wide any part_is others_is = absurd (omega (arith, any))
addresses_first width (b ∷ bs) part others wide any part_is others_is =
    let one = some_octets width wide (b ∷ bs) (omega arith) in
    let fewer = length-drop (address_len width (b ∷ bs)) (b ∷ bs) in
    let count : length others ≡ length (b ∷ bs) - address_len width (b ∷ bs) = ap length others_is ∙ fewer in
    ap (map address_text)
    (first_part (address_len width) (length (b ∷ bs)) (b ∷ bs) part others any any part_is others_is
    ∙ ap (λ more. part ∷ more)
    (enough (address_len width) (some_octets width wide) (length (b ∷ bs) - 1) (length others) others
    (omega (arith, count)) (omega arith)))
