-- Texts of options are read back as their normal forms.
use Rattle.std.proofs.Common.{◌≡◌, ◌↔◌, ℕ, ◌+◌, ◌*◌, ◌/◌, ◌%◌, ◌≤◌, ◌<◌, ◌^◌, Bool, true, false, IsTrue, List, [], ◌++◌}
use Rattle.std.proofs.Common.{length, refl, sym, subst, ◌∙◌, arith}
use Rattle.std.proofs.lemmas.List.{take_all}
use Rattle.byteorder.specs.Endian.{big_bytes, big_number}
use Rattle.byteorder.specs.Numbers.{big_number-reads_back}
use Rattle.wirebase.specs.Bytes.{part}
use Rattle.wirebase.specs.Checks.{Passes}
use Rattle.neighbor_wire.specs.declared.kind.Kind.{Kind}
use Rattle.neighbor_wire.specs.declared.nat64.Nat64Length.{Nat64Length}
use Rattle.neighbor_wire.specs.declared.preference.Preference.{Preference}
use Rattle.neighbor_wire.specs.Nat64.{length_code}
use Rattle.neighbor_wire.specs.Preference.{preference_number, preference_in}
use Rattle.neighbor_wire.specs.Option.{Value, source, target, prefix, mtu, nonce, route, servers, search_list, portal}
use Rattle.neighbor_wire.specs.Option.{nat64, other, units, whole_len, filled, flags, text, units_in, kind_in}
use Rattle.neighbor_wire.specs.Option.{kind_checks, IsContent, IsOption}
use Rattle.neighbor_wire.specs.OptionFormat.{IsCanonical, norm}
use Rattle.neighbor_wire.proofs.Zeros.{strip-zeros, filled-whole}
use Rattle.neighbor_wire.proofs.OptionTexts.{shape, text-shape, length-shape}

not_true : IsTrue false → ⊥
not_true holds = cc

on_link_read : (on_link autonomous router : Bool) → IsTrue on_link ↔ (flags on_link autonomous router / 128 % 2 ≡ 1)
on_link_read true true true = (λ yes. refl, λ yes. refl)
on_link_read true true false = (λ yes. refl, λ yes. refl)
on_link_read true false true = (λ yes. refl, λ yes. refl)
on_link_read true false false = (λ yes. refl, λ yes. refl)
on_link_read false true true = (λ no. absurd (not_true no), λ one. absurd (omega (arith, one)))
on_link_read false true false = (λ no. absurd (not_true no), λ one. absurd (omega (arith, one)))
on_link_read false false true = (λ no. absurd (not_true no), λ one. absurd (omega (arith, one)))
on_link_read false false false = (λ no. absurd (not_true no), λ one. absurd (omega (arith, one)))

autonomous_read : (on_link autonomous router : Bool)
    → IsTrue autonomous ↔ (flags on_link autonomous router / 64 % 2 ≡ 1)
autonomous_read true true true = (λ yes. refl, λ yes. refl)
autonomous_read true true false = (λ yes. refl, λ yes. refl)
autonomous_read true false true = (λ no. absurd (not_true no), λ one. absurd (omega (arith, one)))
autonomous_read true false false = (λ no. absurd (not_true no), λ one. absurd (omega (arith, one)))
autonomous_read false true true = (λ yes. refl, λ yes. refl)
autonomous_read false true false = (λ yes. refl, λ yes. refl)
autonomous_read false false true = (λ no. absurd (not_true no), λ one. absurd (omega (arith, one)))
autonomous_read false false false = (λ no. absurd (not_true no), λ one. absurd (omega (arith, one)))

router_read : (on_link autonomous router : Bool) → IsTrue router ↔ (flags on_link autonomous router / 32 % 2 ≡ 1)
router_read true true true = (λ yes. refl, λ yes. refl)
router_read true true false = (λ no. absurd (not_true no), λ one. absurd (omega (arith, one)))
router_read true false true = (λ yes. refl, λ yes. refl)
router_read true false false = (λ no. absurd (not_true no), λ one. absurd (omega (arith, one)))
router_read false true true = (λ yes. refl, λ yes. refl)
router_read false true false = (λ no. absurd (not_true no), λ one. absurd (omega (arith, one)))
router_read false false true = (λ yes. refl, λ yes. refl)
router_read false false false = (λ no. absurd (not_true no), λ one. absurd (omega (arith, one)))

preference_read : (p : Preference) → p ≡ preference_in (preference_number p * 8)
preference_read Preference.High = refl
preference_read Preference.Medium = refl
preference_read Preference.Low = refl
preference_read Preference.Reserved = refl

code_few : (l : Nat64Length) → length_code l < 6
code_few Nat64Length.Bits96 = omega arith
code_few Nat64Length.Bits64 = omega arith
code_few Nat64Length.Bits56 = omega arith
code_few Nat64Length.Bits48 = omega arith
code_few Nat64Length.Bits40 = omega arith
code_few Nat64Length.Bits32 = omega arith

four_read : (n : ℕ) → n < 2 ^ 32 → n ≡ big_number 4 (big_bytes 4 n ++ [])
four_read n small = sym (big_number-reads_back 4 n [] (omega (arith, small)))

-- the checks of the length of all options
record IsWhole (bytes : List ℕ) : Type 0 where
  fixed : 8 ≤ length bytes
  some : 1 ≤ units_in bytes
  counted : length bytes ≡ 8 * units_in bytes

whole_by : (bytes : List ℕ) (n : ℕ) → 1 ≤ n → length bytes ≡ whole_len n → units_in bytes ≡ units n → IsWhole bytes
whole_by bytes n some long count = record {
  fixed = omega (arith, some, long);
  some = omega (arith, some, count);
  counted = omega (arith, long, count);
}

shape-whole : (v : Value) → IsCanonical v → IsWhole (shape v)
shape-whole (source octets) c =
    whole_by _ (2 + length octets) (omega arith) (length-shape (source octets) tt) refl
shape-whole (target octets) c =
    whole_by _ (2 + length octets) (omega arith) (length-shape (target octets) tt) refl
shape-whole (prefix bits on_link autonomous router valid preferred octets) c =
    whole_by _ 32 (omega arith) (length-shape (prefix bits on_link autonomous router valid preferred octets) c.3) refl
shape-whole (mtu n) c = whole_by _ 8 (omega arith) (length-shape (mtu n) tt) refl
shape-whole (nonce octets) c =
    whole_by _ (2 + length octets) (omega arith) (length-shape (nonce octets) tt) refl
shape-whole (route bits preference lifetime octets) c =
    whole_by _ (8 + length octets) (omega arith) (length-shape (route bits preference lifetime octets) tt) refl
shape-whole (servers lifetime octets) c =
    whole_by _ (8 + length octets) (omega arith) (length-shape (servers lifetime octets) tt) refl
shape-whole (search_list lifetime octets) c =
    whole_by _ (8 + length octets) (omega arith) (length-shape (search_list lifetime octets) tt) refl
shape-whole (portal octets) c =
    whole_by _ (2 + length octets) (omega arith) (length-shape (portal octets) tt) refl
shape-whole (nat64 scaled bits octets) c =
    whole_by _ (4 + length octets) (omega arith) (length-shape (nat64 scaled bits octets) tt) refl
shape-whole (other t octets) c =
    whole_by _ (2 + length octets) (omega arith) (length-shape (other t octets) tt) refl

-- the other checks, and what is said
record Says (bytes : List ℕ) (v : Value) : Type 0 where
  passes : Passes (kind_checks (kind_in bytes) bytes)
  content : IsContent bytes v

prefix_says : (bits : ℕ) (on_link autonomous router : Bool) (valid preferred : ℕ) (octets : List ℕ)
    → IsCanonical (prefix bits on_link autonomous router valid preferred octets)
    → Says (shape (prefix bits on_link autonomous router valid preferred octets))
    (prefix bits on_link autonomous router valid preferred octets)
unfolding part
prefix_says bits on_link autonomous router valid preferred octets (few, first, second, whole) = record {
  passes = (refl, (few, tt));
  content = record {
    kind = refl;
    bits_are = refl;
    on_link_is = on_link_read on_link autonomous router;
    autonomous_is = autonomous_read on_link autonomous router;
    router_is = router_read on_link autonomous router;
    valid_is = four_read valid first;
    preferred_is = four_read preferred second;
    octets_are = sym (take_all 16 octets (omega (arith, whole)));
  };
}

route_says : (bits : ℕ) (preference : Preference) (lifetime : ℕ) (octets : List ℕ)
    → IsCanonical (route bits preference lifetime octets)
    → Says (shape (route bits preference lifetime octets)) (route bits preference lifetime octets)
unfolding part
route_says bits preference lifetime octets (small, (count, long, few, fits)) = record {
  passes = (omega (arith, long, few), (omega (arith, long, fits), tt));
  content = record {
    kind = refl;
    bits_are = refl;
    preference_is = preference_read preference;
    lifetime_is = four_read lifetime small;
    octets_are = sym (filled-whole 8 (1 + count) octets (omega (arith, long)));
  };
}

nat64_says : (scaled : ℕ) (bits : Nat64Length) (octets : List ℕ) → IsCanonical (nat64 scaled bits octets)
    → Says (shape (nat64 scaled bits octets)) (nat64 scaled bits octets)
unfolding part
nat64_says scaled bits octets (small, long) =
    let both : ℕ = scaled * 8 + length_code bits in
    let number : big_number 2 (big_bytes 2 both ++ []) ≡ both =
    big_number-reads_back 2 both [] (omega (arith, small, code_few bits)) in
    record {
      passes = (omega (arith, long), (omega (arith, number, code_few bits), tt));
      content = record {
        kind = refl;
        scaled_is = omega (arith, number, code_few bits);
        bits_are = omega (arith, number, code_few bits);
        octets_are = sym (filled-whole 4 2 octets (omega (arith, long)));
      };
    }

servers_says : (lifetime : ℕ) (octets : List ℕ) → IsCanonical (servers lifetime octets)
    → Says (shape (servers lifetime octets)) (servers lifetime octets)
unfolding part
servers_says lifetime octets (small, (count, long, some, few)) = record {
  passes = ((omega (arith, long, some), omega (arith, long)), tt);
  content = (
    refl,
    four_read lifetime small,
    sym (filled-whole 8 (1 + 2 * count) octets (omega (arith, long))),
  );
}

search_says : (lifetime : ℕ) (octets : List ℕ) → IsCanonical (search_list lifetime octets)
    → Says (shape (search_list lifetime octets)) (search_list lifetime (filled 8 octets))
unfolding part
search_says lifetime octets (small, some, few) = record {
  passes = (omega (arith, some), tt);
  content = (refl, four_read lifetime small, refl);
}

mtu_says : (n : ℕ) → IsCanonical (mtu n) → Says (shape (mtu n)) (mtu n)
unfolding part
mtu_says n small = record { passes = (refl, tt); content = (refl, four_read n small) }

other_says : (t : ℕ) (octets : List ℕ) → IsCanonical (other t octets)
    → Says (shape (other t octets)) (other t (filled 2 octets))
other_says t octets (small, kind, few) = record {
  passes = subst (λ (k : Kind). Passes (kind_checks k (shape (other t octets)))) (sym kind) tt;
  content = (kind, refl, refl);
}

says : (v : Value) → IsCanonical v → Says (shape v) (norm v)
says (source octets) c = record { passes = tt; content = (refl, refl) }
says (target octets) c = record { passes = tt; content = (refl, refl) }
says (prefix bits on_link autonomous router valid preferred octets) c =
    prefix_says bits on_link autonomous router valid preferred octets c
says (mtu n) c = mtu_says n c
says (nonce octets) c = record { passes = tt; content = (refl, refl) }
says (route bits preference lifetime octets) c = route_says bits preference lifetime octets c
says (servers lifetime octets) c = servers_says lifetime octets c
says (search_list lifetime octets) c = search_says lifetime octets c
says (portal octets) c = record { passes = tt; content = (refl, sym (strip-zeros octets _ ∙ c.1)) }
says (nat64 scaled bits octets) c = nat64_says scaled bits octets c
says (other t octets) c = other_says t octets c

-- the text of a canonical value is read as its normal form
pub option_read : (v : Value) → IsCanonical v → IsOption (text v) (norm v)
option_read v c =
    let whole = shape-whole v c in
    let said = says v c in
    let read : IsOption (shape v) (norm v) =
    record {
      passes = (whole.fixed, (whole.some, (whole.counted, said.passes)));
      content = said.content;
    } in
    subst (λ (bytes : List ℕ). IsOption bytes (norm v)) (sym (text-shape v)) read
