-- The format of options: what is read in their texts, and what was read.
use Rattle.std.proofs.Common.{◌≡◌, ℕ, ◌+◌, ◌*◌, ◌/◌, ◌-◌, ◌≤◌, ◌<◌, ◌^◌, List, ◌∷◌}
use Rattle.std.proofs.Common.{◌++◌, length, drop, refl, sym, ap, subst, ◌∙◌, arith}
use Rattle.std.specs.Prelude.{◌==◌, if◌then◌else◌}
use Rattle.std.proofs.lemmas.List.{length-drop}
use Rattle.byteorder.specs.Endian.{big_bytes}
use Rattle.wirebase.specs.Bytes.{IsBytes, number_of}
use Rattle.wirebase.specs.Checks.{Passes}
use Rattle.wirebase.specs.Format.{Rewrites, RoundTrips, SameText}
use Rattle.wirebase.proofs.ByteParts.{number_of-small}
use Rattle.wirebase.proofs.Format.{IsFormat, rewrites, round_trips, same_text}
use Rattle.wirebase.proofs.Pieces.{length-part}
use Rattle.wirebase.proofs.WideParts.{number_of-small4}
use Rattle.wirebase.proofs.Parses.{same_flag}
use Rattle.neighbor_wire.specs.declared.kind.Kind.{Kind}
use Rattle.neighbor_wire.specs.declared.nat64.Nat64Length.{Nat64Length}
use Rattle.neighbor_wire.specs.Kind.{kind_of}
use Rattle.neighbor_wire.specs.Nat64.{length_code}
use Rattle.neighbor_wire.specs.Option.{Value, source, target, prefix, mtu, nonce, route, servers, search_list, portal}
use Rattle.neighbor_wire.specs.Option.{nat64, other, units, filled, units_in, kind_in, lifetime_field, strip}
use Rattle.neighbor_wire.specs.Option.{kind_checks, IsContent, IsOption}
use Rattle.neighbor_wire.specs.OptionFormat.{IsCanonical, norm, format}
use Rattle.neighbor_wire.proofs.Zeros.{strip-strip, length-strip, length-filled, filled-whole, filled-filled}
use Rattle.neighbor_wire.proofs.Zeros.{units-filled}
use Rattle.neighbor_wire.proofs.OptionTexts.{shape, data_shape, list_shape, text-shape}
use Rattle.neighbor_wire.proofs.OptionReading.{option_read}

-- ---- what was read

kind_of_value : Value → Kind
kind_of_value (source octets) = Kind.Source
kind_of_value (target octets) = Kind.Target
kind_of_value (prefix bits on_link autonomous router valid preferred octets) = Kind.Prefix
kind_of_value (mtu n) = Kind.Mtu
kind_of_value (nonce octets) = Kind.Nonce
kind_of_value (route bits preference lifetime octets) = Kind.Route
kind_of_value (servers lifetime octets) = Kind.DnsServers
kind_of_value (search_list lifetime octets) = Kind.SearchList
kind_of_value (portal octets) = Kind.CaptivePortal
kind_of_value (nat64 scaled bits octets) = Kind.Nat64Prefix
kind_of_value (other t octets) = Kind.Other

content-kind : (bytes : List ℕ) (v : Value) → IsContent bytes v → kind_in bytes ≡ kind_of_value v
unfolding kind_of_value
content-kind bytes (source octets) m = m.0
content-kind bytes (target octets) m = m.0
content-kind bytes (prefix bits on_link autonomous router valid preferred octets) m = m.kind
content-kind bytes (mtu n) m = m.0
content-kind bytes (nonce octets) m = m.0
content-kind bytes (route bits preference lifetime octets) m = m.kind
content-kind bytes (servers lifetime octets) m = m.0
content-kind bytes (search_list lifetime octets) m = m.0
content-kind bytes (portal octets) m = m.0
content-kind bytes (nat64 scaled bits octets) m = m.kind
content-kind bytes (other t octets) m = m.0

-- the length of a code
abbrev of_code : ℕ → Nat64Length
of_code n =
    if n == 0 then Nat64Length.Bits96 else if n == 1 then Nat64Length.Bits64 else if n == 2 then Nat64Length.Bits56
    else if n == 3 then Nat64Length.Bits48 else if n == 4 then Nat64Length.Bits40 else Nat64Length.Bits32

code_back : (l : Nat64Length) → of_code (length_code l) ≡ l
code_back Nat64Length.Bits96 = refl
code_back Nat64Length.Bits64 = refl
code_back Nat64Length.Bits56 = refl
code_back Nat64Length.Bits48 = refl
code_back Nat64Length.Bits40 = refl
code_back Nat64Length.Bits32 = refl

content-one : (bytes : List ℕ) (v w : Value) → IsContent bytes v → IsContent bytes w → v ≡ w
unfolding kind_of_value
content-one bytes (source octets) (source more) a b = let one = a.1 ∙ sym b.1 in cc
content-one bytes (target octets) (target more) a b = let one = a.1 ∙ sym b.1 in cc
content-one bytes (prefix bits l o r valid preferred octets) (prefix less m p s good better more) a b =
    let one = a.bits_are ∙ sym b.bits_are in
    let two = same_flag l m _ a.on_link_is b.on_link_is in
    let three = same_flag o p _ a.autonomous_is b.autonomous_is in
    let four = same_flag r s _ a.router_is b.router_is in
    let five = a.valid_is ∙ sym b.valid_is in
    let six = a.preferred_is ∙ sym b.preferred_is in
    let seven = a.octets_are ∙ sym b.octets_are in
    cc
content-one bytes (mtu n) (mtu k) a b = let one = a.1 ∙ sym b.1 in cc
content-one bytes (nonce octets) (nonce more) a b = let one = a.1 ∙ sym b.1 in cc
content-one bytes (route bits preference lifetime octets) (route less other_one time more) a b =
    let one = a.bits_are ∙ sym b.bits_are in
    let two = a.preference_is ∙ sym b.preference_is in
    let three = a.lifetime_is ∙ sym b.lifetime_is in
    let four = a.octets_are ∙ sym b.octets_are in
    cc
content-one bytes (servers lifetime octets) (servers time more) a b =
    let one = a.1 ∙ sym b.1 in
    let two = a.2 ∙ sym b.2 in
    cc
content-one bytes (search_list lifetime octets) (search_list time more) a b =
    let one = a.1 ∙ sym b.1 in
    let two = a.2 ∙ sym b.2 in
    cc
content-one bytes (portal octets) (portal more) a b = let one = a.1 ∙ sym b.1 in cc
content-one bytes (nat64 scaled bits octets) (nat64 time less more) a b =
    let one = a.scaled_is ∙ sym b.scaled_is in
    let two = sym (code_back bits) ∙ ap of_code (a.bits_are ∙ sym b.bits_are) ∙ code_back less in
    let three = a.octets_are ∙ sym b.octets_are in
    cc
content-one bytes (other t octets) (other k more) a b =
    let one = a.1 ∙ sym b.1 in
    let two = a.2 ∙ sym b.2 in
    cc
content-one bytes v w a b =
    let one = content-kind bytes v a in
    let two = content-kind bytes w b in
    absurd cc

pub option-one : (bytes : List ℕ) (v w : Value) → IsOption bytes v → IsOption bytes w → v ≡ w
option-one bytes v w a b = content-one bytes v w a.content b.content

-- the checks of what has a kind
passes_of : (bytes : List ℕ) (v : Value) → IsOption bytes v → Passes (kind_checks (kind_of_value v) bytes)
passes_of bytes v m =
    subst (λ (k : Kind). Passes (kind_checks k bytes)) (content-kind bytes v m.content) m.passes.1.1.1

-- what is behind some bytes of an option
behind_long : (bytes octets : List ℕ) (n : ℕ) (v : Value) → n ≤ 8 → IsOption bytes v → octets ≡ drop n bytes
    → n + length octets ≡ 8 * units_in bytes
behind_long bytes octets n v few m e =
    omega (arith, few, ap (λ (l : List ℕ). length l) e, length-drop n bytes, m.passes.0, m.passes.1.1.0)

data_few : (bytes octets : List ℕ) (v : Value) → IsBytes bytes → IsOption bytes v → octets ≡ drop 2 bytes
    → units (2 + length octets) < 256
data_few bytes octets v are m e = omega (arith, behind_long bytes octets 2 v (omega arith) m e, are 1)

time_small : (bytes : List ℕ) (n : ℕ) → IsBytes bytes → n ≡ number_of lifetime_field bytes → n < 2 ^ 32
time_small bytes n are e = omega (arith, e, number_of-small4 4 8 bytes refl are)

content-canonical : (bytes : List ℕ) (v : Value) → IsBytes bytes → IsOption bytes v → IsCanonical v
unfolding kind_of_value
content-canonical bytes (source octets) are m = data_few bytes octets (source octets) are m m.content.1
content-canonical bytes (target octets) are m = data_few bytes octets (target octets) are m m.content.1
content-canonical bytes (prefix bits l a r valid preferred octets) are m =
    let is = m.content in
    let fits = passes_of bytes (prefix bits l a r valid preferred octets) m in (
      omega (arith, is.bits_are, fits.1.0),
      time_small bytes valid are is.valid_is,
      omega (arith, is.preferred_is, number_of-small4 8 12 bytes refl are),
      ap (λ (o : List ℕ). length o) is.octets_are
          ∙ length-part bytes 16 32 (omega arith) (omega (arith, m.passes.1.1.0, fits.0)),
    )
content-canonical bytes (mtu n) are m = time_small bytes n are m.content.1
content-canonical bytes (nonce octets) are m = data_few bytes octets (nonce octets) are m m.content.1
content-canonical bytes (route bits preference lifetime octets) are m =
    let is = m.content in
    let fits = passes_of bytes (route bits preference lifetime octets) m in
    let long = behind_long bytes octets 8 (route bits preference lifetime octets) (omega arith) m is.octets_are in (
      time_small bytes lifetime are is.lifetime_is,
      (
        units_in bytes - 1,
        omega (arith, long),
        omega (arith, fits.0),
        omega (arith, is.bits_are, fits.1.0),
      ),
    )
content-canonical bytes (servers lifetime octets) are m =
    let fits = passes_of bytes (servers lifetime octets) m in
    let long = behind_long bytes octets 8 (servers lifetime octets) (omega arith) m m.content.2 in (
      time_small bytes lifetime are m.content.1,
      (
        (units_in bytes - 1) / 2,
        omega (arith, long, fits.0.0, fits.0.1),
        omega (arith, fits.0.0),
        omega (arith, are 1),
      ),
    )
content-canonical bytes (search_list lifetime octets) are m =
    let fits = passes_of bytes (search_list lifetime octets) m in
    let long = behind_long bytes octets 8 (search_list lifetime octets) (omega arith) m m.content.2 in (
      time_small bytes lifetime are m.content.1,
      omega (arith, long, fits.0),
      omega (arith, long, are 1),
    )
content-canonical bytes (portal octets) are m =
    let e = m.content.1 in
    let long = behind_long bytes (drop 2 bytes) 2 (portal octets) (omega arith) m refl in
    let shorter : length octets ≤ length (drop 2 bytes) =
    omega (arith, ap (λ (l : List ℕ). length l) e, length-strip (drop 2 bytes)) in (
      omega (arith, long, shorter, are 1),
      ap (λ (l : List ℕ). strip l) e ∙ strip-strip (drop 2 bytes) ∙ sym e,
    )
content-canonical bytes (nat64 scaled bits octets) are m =
    let is = m.content in
    let fits = passes_of bytes (nat64 scaled bits octets) m in
    let long = behind_long bytes octets 4 (nat64 scaled bits octets) (omega arith) m is.octets_are in (
      omega (arith, is.scaled_is, number_of-small 2 4 bytes refl are),
      omega (arith, long, fits.0),
    )
content-canonical bytes (other t octets) are m = (
  omega (arith, m.content.1, are 0),
  ap kind_of m.content.1 ∙ m.content.0,
  data_few bytes octets (other t octets) are m m.content.2,
)

-- ---- the format

data_norm : (octets : List ℕ) → units (2 + length octets) < 256 → units (2 + length (filled 2 octets)) < 256
data_norm octets few = omega (arith, few, units-filled 2 octets)

norm-canonical : (v : Value) → IsCanonical v → IsCanonical (norm v)
norm-canonical (source octets) c = data_norm octets c
norm-canonical (target octets) c = data_norm octets c
norm-canonical (nonce octets) c = data_norm octets c
norm-canonical (search_list lifetime octets) c = (
  c.0,
  omega (arith, c.1, length-filled 8 octets),
  omega (arith, c.2, units-filled 8 octets),
)
norm-canonical (other t octets) c = (c.0, c.1, data_norm octets c.2)
norm-canonical (prefix bits on_link autonomous router valid preferred octets) c = c
norm-canonical (mtu n) c = c
norm-canonical (route bits preference lifetime octets) c = c
norm-canonical (servers lifetime octets) c = c
norm-canonical (portal octets) c = c
norm-canonical (nat64 scaled bits octets) c = c

norm-norm : (v : Value) → norm (norm v) ≡ norm v
norm-norm (source octets) = ap source (filled-filled 2 octets)
norm-norm (target octets) = ap target (filled-filled 2 octets)
norm-norm (nonce octets) = ap nonce (filled-filled 2 octets)
norm-norm (search_list lifetime octets) = ap (search_list lifetime) (filled-filled 8 octets)
norm-norm (other t octets) = ap (other t) (filled-filled 2 octets)
norm-norm (prefix bits on_link autonomous router valid preferred octets) = refl
norm-norm (mtu n) = refl
norm-norm (route bits preference lifetime octets) = refl
norm-norm (servers lifetime octets) = refl
norm-norm (portal octets) = refl
norm-norm (nat64 scaled bits octets) = refl

data_shape-norm : (t : ℕ) (octets : List ℕ) → data_shape t (filled 2 octets) ≡ data_shape t octets
data_shape-norm t octets =
    ap (λ (n : ℕ). t ∷ n ∷ filled 2 (filled 2 octets)) (units-filled 2 octets)
    ∙ ap (λ (l : List ℕ). t ∷ units (2 + length octets) ∷ l) (filled-filled 2 octets)

list_shape-norm : (t lifetime : ℕ) (octets : List ℕ)
    → list_shape t lifetime (filled 8 octets) ≡ list_shape t lifetime octets
list_shape-norm t lifetime octets =
    ap (λ (n : ℕ). t ∷ n ∷ 0 ∷ 0 ∷ (big_bytes 4 lifetime ++ filled 8 (filled 8 octets))) (units-filled 8 octets)
    ∙ ap (λ (l : List ℕ). t ∷ units (8 + length octets) ∷ 0 ∷ 0 ∷ (big_bytes 4 lifetime ++ l)) (filled-filled 8 octets)

shape-norm : (v : Value) → shape (norm v) ≡ shape v
shape-norm (source octets) = data_shape-norm 1 octets
shape-norm (target octets) = data_shape-norm 2 octets
shape-norm (nonce octets) = data_shape-norm 14 octets
shape-norm (search_list lifetime octets) = list_shape-norm 31 lifetime octets
shape-norm (other t octets) = data_shape-norm t octets
shape-norm (prefix bits on_link autonomous router valid preferred octets) = refl
shape-norm (mtu n) = refl
shape-norm (route bits preference lifetime octets) = refl
shape-norm (servers lifetime octets) = refl
shape-norm (portal octets) = refl
shape-norm (nat64 scaled bits octets) = refl

-- octets that were read fill their units
data_kept : (bytes octets : List ℕ) (v : Value) → IsOption bytes v → octets ≡ drop 2 bytes → filled 2 octets ≡ octets
data_kept bytes octets v m e =
    filled-whole 2 (units_in bytes) octets (behind_long bytes octets 2 v (omega arith) m e)

norm-read : (bytes : List ℕ) (v : Value) → IsOption bytes v → norm v ≡ v
norm-read bytes (source octets) m = ap source (data_kept bytes octets (source octets) m m.content.1)
norm-read bytes (target octets) m = ap target (data_kept bytes octets (target octets) m m.content.1)
norm-read bytes (nonce octets) m = ap nonce (data_kept bytes octets (nonce octets) m m.content.1)
norm-read bytes (search_list lifetime octets) m =
    ap (search_list lifetime)
    (filled-whole 8 (units_in bytes) octets
    (behind_long bytes octets 8 (search_list lifetime octets) (omega arith) m m.content.2))
norm-read bytes (other t octets) m = ap (other t) (data_kept bytes octets (other t octets) m m.content.2)
norm-read bytes (prefix bits on_link autonomous router valid preferred octets) m = refl
norm-read bytes (mtu n) m = refl
norm-read bytes (route bits preference lifetime octets) m = refl
norm-read bytes (servers lifetime octets) m = refl
norm-read bytes (portal octets) m = refl
norm-read bytes (nat64 scaled bits octets) m = refl

pub option_format : IsFormat format
option_format = record {
  one_value = option-one;
  reads_back = λ v fills c. option_read v c;
  norm_canonical = norm-canonical;
  norm_norm = norm-norm;
  norm_text = λ v c regular. text-shape (norm v) ∙ shape-norm v ∙ sym (text-shape v);
  accepted = λ bytes v are few m. content-canonical bytes v are m;
  regular = λ bytes v m e. e;
  kept = λ bytes v are c m uncut. norm-read bytes v m;
}

pub option_same_text : (a b : Value) → SameText format a b
option_same_text a b = same_text format option_format tt a b

-- an option that was read has 2,040 bytes at most
pub option_rewrites : (bytes : List ℕ) (v : Value) → IsBytes bytes → IsOption bytes v → Rewrites format v
option_rewrites bytes v are m =
    rewrites format option_format bytes v are (omega (arith, m.passes.1.1.0, are 1)) m

pub option_round_trips : (v : Value) → RoundTrips format v
option_round_trips v = round_trips format option_format v
