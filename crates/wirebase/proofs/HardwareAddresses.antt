-- Addresses of any hardware, which hold eight bytes, zeros after the address: they are equal exactly where their
-- addresses are.
use Rattle.wirebase.proofs.Words.{◌≡◌, ◌-◌, ◌≤◌, ◌&&◌, [], ◌∷◌, ◌++◌, ◌∙◌, Bool, IsTrue, List, ℕ, ℕ_set, ap, arith}
use Rattle.wirebase.proofs.Words.{common_steps, drop, eqb, length, raw_bytes, replicate, subst, sym, take}
use Rattle.wirebase.proofs.Words.{take-append-drop, true}
use Rattle.std.proofs.Common.{length-take-le}
use Rattle.std.specs.Cmp.Lexicographic.{pointwise, same_text}
use Rattle.std.specs.Coded.{Coded-set, coded_ℕ, coded_list, le_prop}
use Rattle.wirebase.specs.declared.ethernet.RawHardwareAddress.{RawHardwareAddress}

abbrev zeros : ℕ → List ℕ
zeros n = replicate n 0

-- ---- the fields of an address, by its bytes

pub length-raw_bytes : (x : RawHardwareAddress) → length (raw_bytes x) ≡ x.len
length-raw_bytes x = length-take-le x.len x.bytes (omega (arith, x.fits, x.whole))

raw_whole : (x : RawHardwareAddress) → raw_bytes x ++ zeros (8 - x.len) ≡ x.bytes
raw_whole x = ap (λ (l : List ℕ). raw_bytes x ++ l) (sym x.filled) ∙ take-append-drop x.len x.bytes

address_of : (len : ℕ) (bytes : List ℕ) → len ≤ 8 → length bytes ≡ 8 → drop len bytes ≡ zeros (8 - len)
    → RawHardwareAddress
address_of len bytes fits whole filled =
    record { len = len; bytes = bytes; fits = fits; whole = whole; filled = filled }

-- whatever proves that the fields fit
same_facts : (len : ℕ) (bytes : List ℕ) (fits fits' : len ≤ 8) (whole whole' : length bytes ≡ 8)
    (filled filled' : drop len bytes ≡ zeros (8 - len))
    → address_of len bytes fits whole filled ≡ address_of len bytes fits' whole' filled'
same_facts len bytes fits fits' whole whole' filled filled' =
    ap (λ h. address_of len bytes h whole filled) (le_prop fits fits')
    ∙ ap (λ h. address_of len bytes fits' h filled) (ℕ_set _ _ whole whole')
    ∙ ap (λ h. address_of len bytes fits' whole' h) (Coded-set (coded_list coded_ℕ) _ _ filled filled')

same_fields : (x y : RawHardwareAddress) → x.len ≡ y.len → x.bytes ≡ y.bytes → x ≡ y
unfolding address_of
same_fields x y len bytes =
    subst (λ (n : ℕ). (fits : n ≤ 8) (filled : drop n y.bytes ≡ zeros (8 - n))
    → x ≡ address_of n y.bytes fits y.whole filled) len
    (λ fits filled. subst (λ (l : List ℕ). (whole : length l ≡ 8) (filled : drop x.len l ≡ zeros (8 - x.len))
    → x ≡ address_of x.len l fits whole filled) bytes
    (λ whole filled. same_facts x.len x.bytes x.fits fits x.whole whole x.filled filled) y.whole filled)
    y.fits y.filled

-- ---- equal addresses

pub same_raw : (x y : RawHardwareAddress) → raw_bytes x ≡ raw_bytes y → x ≡ y
same_raw x y e =
    let len : x.len ≡ y.len = sym (length-raw_bytes x) ∙ ap (λ (l : List ℕ). length l) e ∙ length-raw_bytes y in
    let bytes : x.bytes ≡ y.bytes =
    sym (raw_whole x) ∙ ap (λ (l : List ℕ). l ++ zeros (8 - x.len)) e
    ∙ ap (λ (n : ℕ). raw_bytes y ++ zeros (8 - n)) len ∙ raw_whole y in
    same_fields x y len bytes

pointwise_same : (bytes : List ℕ) → pointwise eqb bytes bytes ≡ true
pointwise_same [] = grind arith
pointwise_same (x ∷ bytes) = let h = pointwise_same bytes in grind (arith, common_steps)

-- addresses with equal fields have equal bytes
fronts : (x y : RawHardwareAddress) → x.len ≡ y.len → pointwise eqb x.bytes y.bytes ≡ true → raw_bytes x ≡ raw_bytes y
fronts x y len same =
    ap (λ (n : ℕ). take n x.bytes) len ∙ ap (λ (l : List ℕ). take y.len l) (same_text x.bytes y.bytes (sym same))

pub same_front : (result : Bool) (x y : RawHardwareAddress)
    → result ≡ (eqb x.len y.len && pointwise eqb x.bytes y.bytes)
    → (IsTrue result → raw_bytes x ≡ raw_bytes y) × (raw_bytes x ≡ raw_bytes y → IsTrue result)
same_front result x y e = (
  λ h. grind (arith, common_steps, fronts x y),
  λ t. let own = pointwise_same x.bytes in
      let len = ap (λ (a : RawHardwareAddress). a.len) (same_raw x y t) in
      let bytes = ap (λ (a : RawHardwareAddress). a.bytes) (same_raw x y t) in
      let told = rw (← bytes) at e in
      grind (arith, common_steps),
)
