-- The checks of an option that is to be written hold exactly where it is canonical.
use Rattle.std.proofs.Common.{◌↔◌, ℕ, ◌/◌, ◌<◌, List, [], ◌∷◌, ◌++◌, length, refl, inl, inr, arith}
use Rattle.wirebase.specs.Checks.{Check, Passes, Fails}
use Rattle.neighbor_wire.specs.declared.unwritten.Unwritten.{Unwritten}
use Rattle.neighbor_wire.specs.Option.{Value, source, target, prefix, mtu, nonce, route, servers, search_list, portal}
use Rattle.neighbor_wire.specs.Option.{nat64, other, units, body_len, text_len}
use Rattle.neighbor_wire.specs.OptionFormat.{IsScaled, IsCanonical}
use Rattle.neighbor_wire.specs.Unwritten.{value_checks, push_checks}
use Rattle.neighbor_wire.specs.private.Numbers.{HasNumbers}

passes_canonical : (v : Value) → HasNumbers v → Passes (value_checks v) → IsCanonical v
passes_canonical (source octets) n p = p.0
passes_canonical (target octets) n p = p.0
passes_canonical (prefix bits on_link autonomous router valid preferred octets) n p = (p.1.0, n.0, n.1, n.2)
passes_canonical (mtu size) n p = n
passes_canonical (nonce octets) n p = p.0
passes_canonical (route bits preference lifetime octets) n p = (
  n,
  (
    length octets / 8,
    omega (arith, p.1.0.0),
    omega (arith, p.1.0.1),
    omega (arith, p.1.0.0, p.1.1.0),
  ),
)
passes_canonical (servers lifetime octets) n p = (
  n,
  (
    length octets / 16,
    omega (arith, p.1.0.1),
    omega (arith, p.1.0.0, p.1.0.1),
    omega (arith, p.0),
  ),
)
passes_canonical (search_list lifetime octets) n p = (n, p.1.0, p.0)
passes_canonical (portal octets) n p = (p.0, p.1.0)
passes_canonical (nat64 scaled bits octets) n p = (p.1.1.0, p.1.0)
passes_canonical (other t octets) n p = (n, p.1.0, p.0)

canonical_passes : (v : Value) → IsCanonical v → Passes (value_checks v)
canonical_passes (source octets) c = (c, tt)
canonical_passes (target octets) c = (c, tt)
canonical_passes (prefix bits on_link autonomous router valid preferred octets) c = (omega arith, (c.0, tt))
canonical_passes (mtu size) c = (omega arith, tt)
canonical_passes (nonce octets) c = (c, tt)
canonical_passes (route bits preference lifetime octets) (small, (count, long, few, fits)) = (
  omega (arith, long, few),
  ((omega (arith, long), omega (arith, long, few)), (omega (arith, long, fits), tt)),
)
canonical_passes (servers lifetime octets) (small, (count, long, some, few)) = (
  omega (arith, long, few),
  ((omega (arith, long, some), omega (arith, long)), tt),
)
canonical_passes (search_list lifetime octets) c = (c.2, (c.1, tt))
canonical_passes (portal octets) c = (c.0, (c.1, tt))
canonical_passes (nat64 scaled bits octets) c = (omega (arith, c.1), (c.1, (c.0, tt)))
canonical_passes (other t octets) c = (c.2, (c.1, tt))

pub checks_canonical : (v : Value) → HasNumbers v → Passes (value_checks v) ↔ IsCanonical v
checks_canonical v n = (passes_canonical v n, canonical_passes v)

scaled_few : (v : Value) → IsCanonical v → IsScaled v
scaled_few (nat64 scaled bits octets) c = c.0
scaled_few (source octets) c = tt
scaled_few (target octets) c = tt
scaled_few (prefix bits on_link autonomous router valid preferred octets) c = tt
scaled_few (mtu size) c = tt
scaled_few (nonce octets) c = tt
scaled_few (route bits preference lifetime octets) c = tt
scaled_few (servers lifetime octets) c = tt
scaled_few (search_list lifetime octets) c = tt
scaled_few (portal octets) c = tt
scaled_few (other t octets) c = tt

-- a canonical value can be written where there is room
pub can_write : (v : Value) → IsCanonical v → (units (body_len v) < 256) × IsScaled v
can_write v c = ((canonical_passes v c).0, scaled_few v c)

-- ---- with the check that there is room

fails_before : (checks more : List (Check Unwritten)) (why : Unwritten) → Fails checks why
    → Fails (checks ++ more) why
fails_before [] more why fails = absurd fails
fails_before (c ∷ checks) more why (inl fails) = inl fails
fails_before (c ∷ checks) more why (inr (holds, fails)) = inr (holds, fails_before checks more why fails)

fails_behind : (checks more : List (Check Unwritten)) (why : Unwritten) → Passes checks → Fails more why
    → Fails (checks ++ more) why
fails_behind [] more why passes fails = fails
fails_behind (c ∷ checks) more why passes fails = inr (passes.0, fails_behind checks more why passes.1 fails)

pub refused_first : (room : ℕ) (v : Value) (why : Unwritten) → Fails (value_checks v) why
    → Fails (push_checks room v) why
refused_first room v why fails = fails_before (value_checks v) _ why fails

pub refused_last : (room : ℕ) (v : Value) → IsCanonical v → room < text_len v
    → Fails (push_checks room v) Unwritten.Full
refused_last room v c less =
    fails_behind (value_checks v) _ Unwritten.Full (canonical_passes v c)
    (inl (λ fits. omega (arith, less, fits), refl))
