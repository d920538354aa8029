-- The format of options: which can be written, canonical values, the normal form, and what writing leaves.
use Rattle.std.specs.Prelude.{◌≡◌, ℕ, ◌+◌, ◌*◌, ◌^◌, ◌<◌, ◌≤◌, List, length}
use Rattle.wirebase.specs.Bytes.{over}
use Rattle.wirebase.specs.Format.{Format, RoundTrips}
use Rattle.neighbor_wire.specs.declared.kind.Kind.{Kind}
use Rattle.neighbor_wire.specs.Kind.{kind_of}
use Rattle.neighbor_wire.specs.Option.{Value, source, target, prefix, mtu, nonce, route, servers, search_list, portal}
use Rattle.neighbor_wire.specs.Option.{nat64, other, units, filled, text, body_len, text_len, strip, IsOption}

-- The requirements on an option and on the octets that it is written into: there is room, a byte counts the units, and
-- 13 bits hold the scaled lifetime of a NAT64 prefix.
abbrev pub IsScaled : Value → Type 0
IsScaled (nat64 scaled bits octets) = scaled < 2 ^ 13
IsScaled v = Unit {0}

abbrev pub CanEmit : Value → List ℕ → Type 0
CanEmit v bytes = (text_len v ≤ length bytes) × (units (body_len v) < 256) × IsScaled v

-- A value that its own text gives back as its normal form: each number fits its bits, a prefix is no longer than there
-- are octets, which are whole ones, of DNS servers there is one at least, a URI has no zeros at its end, and an other
-- option has a type without a case of its own.
abbrev pub IsCanonical : Value → Type 0
IsCanonical (source octets) = units (2 + length octets) < 256
IsCanonical (target octets) = units (2 + length octets) < 256
IsCanonical (prefix bits on_link autonomous router valid preferred octets) =
    (bits ≤ 128) × (valid < 2 ^ 32) × (preferred < 2 ^ 32) × (length octets ≡ 16)
IsCanonical (mtu n) = n < 2 ^ 32
IsCanonical (nonce octets) = units (2 + length octets) < 256
IsCanonical (route bits preference lifetime octets) =
    (lifetime < 2 ^ 32)
    × ((count : ℕ) × (length octets ≡ 8 * count) × (count ≤ 2) × (bits ≤ 64 * count))
IsCanonical (servers lifetime octets) =
    (lifetime < 2 ^ 32) × ((count : ℕ) × (length octets ≡ 16 * count) × (1 ≤ count) × (count < 128))
IsCanonical (search_list lifetime octets) =
    (lifetime < 2 ^ 32) × (1 ≤ length octets) × (units (8 + length octets) < 256)
IsCanonical (portal octets) = (units (2 + length octets) < 256) × (strip octets ≡ octets)
IsCanonical (nat64 scaled bits octets) = (scaled < 2 ^ 13) × (length octets ≡ 12)
IsCanonical (other t octets) = (t < 256) × (kind_of t ≡ Kind.Other) × (units (2 + length octets) < 256)

-- The normal form: where the octets are not delimited, the zeros behind them belong to them.
abbrev pub norm : Value → Value
norm (source octets) = source (filled 2 octets)
norm (target octets) = target (filled 2 octets)
norm (nonce octets) = nonce (filled 2 octets)
norm (search_list lifetime octets) = search_list lifetime (filled 8 octets)
norm (other t octets) = other t (filled 2 octets)
norm (prefix bits on_link autonomous router valid preferred octets) =
    prefix bits on_link autonomous router valid preferred octets
norm (mtu n) = mtu n
norm (route bits preference lifetime octets) = route bits preference lifetime octets
norm (servers lifetime octets) = servers lifetime octets
norm (portal octets) = portal octets
norm (nat64 scaled bits octets) = nat64 scaled bits octets

-- The format; no value is an exception, and of what was read nothing is dropped.
abbrev pub format : Format Value
format =
    record {
      Reads = IsOption;
      Fills = Unit {0};
      text = text;
      IsCanonical = IsCanonical;
      IsException = λ v. ⊥;
      norm = norm;
      IsCut = λ v. ⊥;
    }

-- What writing an option over `old` leaves: its text over the front. Where `old` has exactly its length, its text is
-- all that is left.
pub record Emits (v : Value) (old new : List ℕ) : Type 0 where
  pub written : new ≡ over old (text v)
  pub exact : length old ≡ text_len v → new ≡ text v
  pub round_trips : RoundTrips format v
