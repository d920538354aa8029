-- What listeners read: codes of times, lists of groups, and what is due.
use Rattle.std.proofs.Common.{◌≡◌, ℕ, ◌+◌, ◌*◌, ◌/◌, ◌%◌, ◌^◌, ◌<◌, ◌≤◌, false, true, nat_lt, refl, lit<, List, [], ◌∷◌}
use Rattle.std.proofs.Common.{length, drop, get_or, arith, ap, sym, ◌∙◌, length-append}
use Rattle.std.proofs.lemmas.Nat.{mul-le}
use Rattle.std.proofs.Math.Nat.{pow-le-pow_right, mod-eq_of_lt}
use Rattle.std.proofs.lemmas.List.{drop_more}
use Rattle.control_wire.specs.ByteWriter.{fields, be8, be16}
use Rattle.control_wire.specs.Ipv6Address.{octets_of}
use Rattle.control_wire.specs.Ipv6AddressType.{Ipv6Address}
use Rattle.control_wire.specs.Mld.{MldValue, report}
use Rattle.control_wire.specs.MldAddressRecordReprType.{AddressRecordRepr}
use Rattle.control_wire.specs.MldRecord.{RecordValue, address_record, text}
use Rattle.control_wire.specs.MldRecordTypeType.TheVariants.{ModeIsInclude}
use Rattle.examples.specs.Listener.{delay_millis, IsDue, all_groups, one_group, some_sources, record_of}
use Rattle.examples.specs.Neighbor.{IsUnspecified}

-- ---- codes

pub linear : (code : ℕ) → code < 32768 → delay_millis code ≡ code
unfolding delay_millis
linear code h = let small : nat_lt code 32768 ≡ true = grind arith in rw small refl

pub floating : (code : ℕ) → 32768 ≤ code
    → ((4096 + code % 4096) * 2 ^ (code / 4096 % 8 + 3) % 2 ^ 64 ≤ 8387584)
    × ((4096 + code % 4096) * 2 ^ (code / 4096 % 8 + 3) % 2 ^ 64 ≡ delay_millis code)
unfolding delay_millis
floating code h =
    let e : ℕ = code / 4096 % 8 in
    let m : ℕ = code % 4096 in
    let last : e + 3 ≤ 10 = omega arith in
    let power : 2 ^ (e + 3) ≤ 2 ^ 10 = pow-le-pow_right (lit< tt) last in
    let bound : (4096 + m) * 2 ^ (e + 3) ≤ 8191 * 2 ^ 10 =
    mul-le (4096 + m) (2 ^ (e + 3)) 8191 (2 ^ 10) (omega arith) power in
    let whole : (4096 + m) * 2 ^ (e + 3) % 2 ^ 64 ≡ (4096 + m) * 2 ^ (e + 3) = mod-eq_of_lt (omega arith) in
    let large : nat_lt code 32768 ≡ false = grind arith in
    rw (whole, large) (omega (arith, bound), refl)

pub ruleset reading = (linear, floating)

-- ---- groups

front_at : (rs : List AddressRecordRepr) (i : ℕ) (r : AddressRecordRepr) → i < length rs → r ≡ get_or rs i r
    → drop i rs ≡ r ∷ drop (i + 1) rs
front_at rs i r h is = drop_more rs i r h ∙ ap (λ (x : AddressRecordRepr). x ∷ drop (i + 1) rs) (sym is)

-- ---- what is due

length_text : (group : Ipv6Address) (n : ℕ) → length (text (address_record ModeIsInclude 0 n group [])) ≡ 20
unfolding fields be8 be16
length_text group n = omega (arith, length-append (octets_of group) [], group.whole)

pub length_record : (group : Ipv6Address) (sources : List ℕ)
    → length (record_of group sources) ≡ 20 + length sources
length_record group sources =
    omega (
      arith,
      length-append (text (address_record ModeIsInclude 0 (length sources / 16) group [])) sources,
      length_text group (length sources / 16),
    )

pub record SourcesDue (group : Ipv6Address) (sources : List ℕ) (due : MldValue) : Type 0 where
  pub is : due ≡ report 1 (record_of group sources)
  pub few : length sources ≤ 1424

pub sources_due : (listening : List RecordValue) (group : Ipv6Address) (sources : List ℕ) (due : MldValue)
    → (IsUnspecified group → ⊥) → (sources ≡ [] → ⊥) → IsDue listening group sources due
    → SourcesDue group sources due
sources_due listening group sources due one some (all_groups all n) = absurd (one all)
sources_due listening group sources due one some (one_group m l none) = absurd (some none)
sources_due listening group sources due one some (some_sources m l n few) = record { is = refl; few = few }
