-- The texts of options, and their lengths.
use Rattle.std.proofs.Common.{◌≡◌, ℕ, ◌+◌, ◌*◌, ◌≤◌, List, [], ◌∷◌, ◌++◌, length, refl}
use Rattle.std.proofs.Common.{sym, ap, subst, ◌∙◌, arith}
use Rattle.std.proofs.lemmas.List.{append-nil}
use Rattle.byteorder.specs.Endian.{big_bytes}
use Rattle.wirebase.specs.ByteWriter.{be8, be16, be32, fields}
use Rattle.neighbor_wire.specs.Nat64.{length_code}
use Rattle.neighbor_wire.specs.Preference.{preference_number}
use Rattle.neighbor_wire.specs.declared.option.NeighborOption.{NeighborOption}
use Rattle.neighbor_wire.specs.Option.{Value, source, target, prefix, mtu, nonce, route, servers, search_list, portal}
use Rattle.neighbor_wire.specs.Option.{nat64, other, value_of, units, whole_len, zeros, filled, data_fields}
use Rattle.neighbor_wire.specs.Option.{list_fields}
use Rattle.neighbor_wire.specs.Option.{flags, text, body_len, text_len}
use Rattle.wirebase.specs.Checks.{Passes}
use Rattle.neighbor_wire.specs.Option.{units_in}
use Rattle.neighbor_wire.specs.Options.{block_checks}
use Rattle.neighbor_wire.proofs.Zeros.{length-filled}

-- ---- the texts as lists

abbrev pub data_shape : ℕ → List ℕ → List ℕ
data_shape t octets = t ∷ units (2 + length octets) ∷ filled 2 octets

abbrev pub list_shape : ℕ → ℕ → List ℕ → List ℕ
list_shape t lifetime octets =
    t ∷ units (8 + length octets) ∷ 0 ∷ 0 ∷ (big_bytes 4 lifetime ++ filled 8 octets)

abbrev pub shape : Value → List ℕ
shape (source octets) = data_shape 1 octets
shape (target octets) = data_shape 2 octets
shape (prefix bits on_link autonomous router valid preferred octets) =
    3 ∷ 4 ∷ bits ∷ flags on_link autonomous router
    ∷ (big_bytes 4 valid ++ (big_bytes 4 preferred ++ (0 ∷ 0 ∷ 0 ∷ 0 ∷ octets)))
shape (mtu n) = 5 ∷ 1 ∷ 0 ∷ 0 ∷ (big_bytes 4 n ++ [])
shape (nonce octets) = data_shape 14 octets
shape (route bits preference lifetime octets) =
    24 ∷ units (8 + length octets) ∷ bits ∷ preference_number preference * 8
    ∷ (big_bytes 4 lifetime ++ filled 8 octets)
shape (servers lifetime octets) = list_shape 25 lifetime octets
shape (search_list lifetime octets) = list_shape 31 lifetime octets
shape (portal octets) = data_shape 37 octets
shape (nat64 scaled bits octets) =
    38 ∷ units (4 + length octets) ∷ (big_bytes 2 (scaled * 8 + length_code bits) ++ filled 4 octets)
shape (other t octets) = data_shape t octets

data_text : (t : ℕ) (octets : List ℕ) → fields (data_fields t octets) ≡ data_shape t octets
unfolding fields be8
data_text t octets =
    ap (λ (l : List ℕ). t ∷ units (2 + length octets) ∷ (octets ++ l)) (append-nil (zeros (2 + length octets)))

list_text : (t lifetime : ℕ) (octets : List ℕ) → fields (list_fields t lifetime octets) ≡ list_shape t lifetime octets
unfolding fields be8 be16 be32
list_text t lifetime octets =
    ap (λ (l : List ℕ). t ∷ units (8 + length octets) ∷ 0 ∷ 0 ∷ (big_bytes 4 lifetime ++ (octets ++ l)))
    (append-nil (zeros (8 + length octets)))

pub text-shape : (v : Value) → text v ≡ shape v
unfolding fields be8 be16 be32
text-shape (source octets) = data_text 1 octets
text-shape (target octets) = data_text 2 octets
text-shape (prefix bits on_link autonomous router valid preferred octets) =
    ap (λ (l : List ℕ). 3 ∷ 4 ∷ bits ∷ flags on_link autonomous router
    ∷ (big_bytes 4 valid ++ (big_bytes 4 preferred ++ (0 ∷ 0 ∷ 0 ∷ 0 ∷ l)))) (append-nil octets)
text-shape (mtu n) = refl
text-shape (nonce octets) = data_text 14 octets
text-shape (route bits preference lifetime octets) =
    ap (λ (l : List ℕ). 24 ∷ units (8 + length octets) ∷ bits ∷ preference_number preference * 8
    ∷ (big_bytes 4 lifetime ++ (octets ++ l))) (append-nil (zeros (8 + length octets)))
text-shape (servers lifetime octets) = list_text 25 lifetime octets
text-shape (search_list lifetime octets) = list_text 31 lifetime octets
text-shape (portal octets) = data_text 37 octets
text-shape (nat64 scaled bits octets) =
    ap (λ (l : List ℕ). 38 ∷ units (4 + length octets)
    ∷ (big_bytes 2 (scaled * 8 + length_code bits) ++ (octets ++ l))) (append-nil (zeros (4 + length octets)))
text-shape (other t octets) = data_text t octets

-- ---- their lengths

-- the octets of a prefix are those of an address
abbrev pub HasAddress : Value → Type 0
HasAddress (prefix bits on_link autonomous router valid preferred octets) = length octets ≡ 16
HasAddress v = Unit {0}

length-data : (t : ℕ) (octets : List ℕ) → length (data_shape t octets) ≡ whole_len (2 + length octets)
length-data t octets = omega (arith, length-filled 2 octets)

length-list : (t lifetime : ℕ) (octets : List ℕ) → length (list_shape t lifetime octets) ≡ whole_len (8 + length octets)
length-list t lifetime octets = omega (arith, length-filled 8 octets)

pub length-shape : (v : Value) → HasAddress v → length (shape v) ≡ text_len v
length-shape (source octets) whole = length-data 1 octets
length-shape (target octets) whole = length-data 2 octets
length-shape (prefix bits on_link autonomous router valid preferred octets) whole = omega (arith, whole)
length-shape (mtu n) whole = omega arith
length-shape (nonce octets) whole = length-data 14 octets
length-shape (route bits preference lifetime octets) whole = omega (arith, length-filled 8 octets)
length-shape (servers lifetime octets) whole = length-list 25 lifetime octets
length-shape (search_list lifetime octets) whole = length-list 31 lifetime octets
length-shape (portal octets) whole = length-data 37 octets
length-shape (nat64 scaled bits octets) whole = omega (arith, length-filled 4 octets)
length-shape (other t octets) whole = length-data t octets

pub length-text : (v : Value) → HasAddress v → length (text v) ≡ text_len v
length-text v whole = ap (λ (l : List ℕ). length l) (text-shape v) ∙ length-shape v whole

pub value_whole : (o : NeighborOption) → HasAddress (value_of o)
value_whole (NeighborOption.Prefix p) = p.prefix.whole
value_whole (NeighborOption.SourceLinkLayerAddress octets) = tt
value_whole (NeighborOption.TargetLinkLayerAddress octets) = tt
value_whole (NeighborOption.Mtu n) = tt
value_whole (NeighborOption.Nonce octets) = tt
value_whole (NeighborOption.Route r) = tt
value_whole (NeighborOption.DnsServers lifetime octets) = tt
value_whole (NeighborOption.SearchList lifetime octets) = tt
value_whole (NeighborOption.CaptivePortal octets) = tt
value_whole (NeighborOption.Nat64Prefix p) = tt
value_whole (NeighborOption.Other kind octets) = tt

-- ---- as blocks

pub record IsBlock (bytes : List ℕ) : Type 0 where
  pub begins : Passes (block_checks bytes)
  pub counted : length bytes ≡ 8 * units_in bytes

body-some : (v : Value) → 1 ≤ body_len v
body-some (source octets) = omega arith
body-some (target octets) = omega arith
body-some (prefix bits on_link autonomous router valid preferred octets) = omega arith
body-some (mtu n) = omega arith
body-some (nonce octets) = omega arith
body-some (route bits preference lifetime octets) = omega arith
body-some (servers lifetime octets) = omega arith
body-some (search_list lifetime octets) = omega arith
body-some (portal octets) = omega arith
body-some (nat64 scaled bits octets) = omega arith
body-some (other t octets) = omega arith

shape-units : (v : Value) → units_in (shape v) ≡ units (body_len v)
shape-units (source octets) = refl
shape-units (target octets) = refl
shape-units (prefix bits on_link autonomous router valid preferred octets) = refl
shape-units (mtu n) = refl
shape-units (nonce octets) = refl
shape-units (route bits preference lifetime octets) = refl
shape-units (servers lifetime octets) = refl
shape-units (search_list lifetime octets) = refl
shape-units (portal octets) = refl
shape-units (nat64 scaled bits octets) = refl
shape-units (other t octets) = refl

pub text_block : (v : Value) → HasAddress v → IsBlock (text v)
text_block v whole =
    let some = body-some v in
    let long = length-shape v whole in
    let count = shape-units v in
    let is : IsBlock (shape v) =
    record {
      begins = (omega (arith, some, long), (omega (arith, some, count), (omega (arith, count, long), tt)));
      counted = omega (arith, count, long);
    } in
    subst (λ (bytes : List ℕ). IsBlock bytes) (sym (text-shape v)) is
