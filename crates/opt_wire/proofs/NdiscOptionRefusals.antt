-- The checks of an option: bytes that pass them are read, and of others the check that fails.
use Rattle.opt_wire.proofs.Words.{◌*◌, ◌+◌, ◌∙◌, ◌≡◌, ◌≢◌, ◌≤◌, BeginsWithBlock, Ipv6Address, Ipv6Repr, List, ℕ, ap}
use Rattle.opt_wire.proofs.Words.{arith, byte_of, bytes_of, inl, inr, known, length, length-part, number-case_in}
use Rattle.opt_wire.proofs.Words.{number_of, octets_of, of_micros, preferred_lifetime_field, prefix_flags_field}
use Rattle.opt_wire.proofs.Words.{protocol_of, refl, subst, sym, type_field, type_of, units_in}
use Rattle.wirebase.specs.Checks.{Passes, Fails}
use Rattle.wirebase.specs.Ipv6 as ipv6
use Rattle.opt_wire.specs.NdiscOption.{link_addr_field, mtu_field, data_field, prefix_len_field, valid_lifetime_field}
use Rattle.opt_wire.specs.NdiscOptionTables.{type_number, types}
use Rattle.opt_wire.specs.NdiscOptionRepr.{source, target, prefix_information, redirected, mtu, unknown}
use Rattle.opt_wire.specs.NdiscOptionRefusal.{IsRead, kind_in, packet_in, unit_checks, type_checks, Refuses}
use Rattle.opt_wire.specs.declared.ndiscoption.refusal.Refusal.{Refusal}
use Rattle.opt_wire.specs.declared.ndiscoption.tables.Type.{«Type» as Kind}

-- the type of a number
pub number-type : (bytes : List ℕ) (k : Kind) → kind_in bytes ≡ k → byte_of type_field bytes ≡ type_number k
number-type bytes k is =
    sym (number-case_in type_number Kind.Unknown (λ n. refl) types (byte_of type_field bytes)) ∙ ap type_number is

-- enough units are a block
block : (bytes : List ℕ) → Passes (unit_checks bytes) → (byte_of type_field bytes ≡ 3 → 4 ≤ units_in bytes)
    → (byte_of type_field bytes ≡ 4 → 6 ≤ units_in bytes) → BeginsWithBlock bytes
block bytes (fixed, (some, (counted, t))) long packet = record {
  whole = record { fixed = fixed; counted = counted; prefix_is = long; redirected = packet };
  some = some;
}

packet_block : (bytes : List ℕ) → kind_in bytes ≡ Kind.RedirectedHeader → Passes (unit_checks bytes)
    → 6 ≤ units_in bytes → BeginsWithBlock bytes
packet_block bytes is u fits =
    block bytes u (λ e. absurd (omega (arith, e, number-type bytes Kind.RedirectedHeader is))) (λ e. fits)

-- a block of another type than 3 and 4
other_block : (bytes : List ℕ) (k : Kind) → kind_in bytes ≡ k → k ≢ Kind.PrefixInformation → k ≢ Kind.RedirectedHeader
    → Passes (unit_checks bytes) → BeginsWithBlock bytes
other_block bytes k is long packet u =
    block bytes u (λ e. absurd (long (sym is ∙ ap type_of e))) (λ e. absurd (packet (sym is ∙ ap type_of e)))

-- ---- what is read

address_at : (bytes : List ℕ) (i j : ℕ) → i ≤ j → j ≤ length bytes → i + 16 ≡ j → (address : Ipv6Address)
    × (octets_of address ≡ bytes_of (record { from = i; to = j }) bytes)
address_at bytes i j h k wide = (
  record {
    octets = bytes_of (record { from = i; to = j }) bytes;
    whole = omega (arith, length-part bytes i j h k, wide);
  },
  refl,
)

header_at : (bytes : List ℕ) → 40 ≤ length bytes → (h : Ipv6Repr) × ipv6.IsHeader bytes h
header_at bytes fixed =
    let from = address_at bytes 8 24 (omega arith) (omega (arith, fixed)) refl in
    let to = address_at bytes 24 40 (omega arith) (omega (arith, fixed)) refl in
    let h : Ipv6Repr = record {
      src_addr = from.0;
      dst_addr = to.0;
      next_header = protocol_of (byte_of ipv6.next_header_field bytes);
      payload_len = ipv6.payload_len_in bytes;
      hop_limit = byte_of ipv6.hop_limit_field bytes;
    } in
    (h, record { payload = refl; protocol = refl; hops = refl; source = from.1; destination = to.1 })

-- the length of a redirected packet
pub length-packet : (bytes : List ℕ) → Passes (unit_checks bytes) → 6 ≤ units_in bytes
    → length (packet_in bytes) + 8 ≡ 8 * units_in bytes
length-packet bytes (fixed, (some, (counted, t))) fits =
    omega (arith, fits, length-part bytes 8 (8 * units_in bytes) (omega (arith, fits)) counted)

-- bytes that pass the checks are read, by their type
read_by : (bytes : List ℕ) (k : Kind) → kind_in bytes ≡ k → Passes (unit_checks bytes) → Passes (type_checks k bytes)
    → IsRead bytes
read_by bytes Kind.SourceLinkLayerAddr is u passes = (
  source (bytes_of (link_addr_field bytes) bytes),
  record {
    block = other_block bytes _ is (λ e. cc) (λ e. cc) u;
    reading = record { kind = number-type bytes _ is; address_is = refl };
  },
)
read_by bytes Kind.TargetLinkLayerAddr is u passes = (
  target (bytes_of (link_addr_field bytes) bytes),
  record {
    block = other_block bytes _ is (λ e. cc) (λ e. cc) u;
    reading = record { kind = number-type bytes _ is; address_is = refl };
  },
)
read_by bytes Kind.PrefixInformation is u (four, t) =
    let three = number-type bytes Kind.PrefixInformation is in
    let address = address_at bytes 16 32 (omega arith) (omega (arith, u.1.1.0, four)) refl in (
      prefix_information (record {
        prefix_len = byte_of prefix_len_field bytes;
        flags = record { 0 = known (byte_of prefix_flags_field bytes) };
        valid_lifetime = of_micros (1000000 * number_of valid_lifetime_field bytes);
        preferred_lifetime = of_micros (1000000 * number_of preferred_lifetime_field bytes);
        prefix = address.0;
      }),
      record {
        block = block bytes u (λ e. omega (arith, four)) (λ e. absurd (omega (arith, e, three)));
        reading = record {
          kind = three;
          count = four;
          len = refl;
          flags = refl;
          valid = refl;
          preferred = refl;
          octets = address.1;
        };
      },
    )
read_by bytes Kind.RedirectedHeader is u (fits, (total, (six, t))) =
    let fixed : 40 ≤ length (packet_in bytes) = omega (arith, fits, length-packet bytes u fits) in
    let header = header_at (packet_in bytes) fixed in (
      redirected header.0 (bytes_of (ipv6.payload_field (packet_in bytes)) (packet_in bytes)),
      record {
        block = packet_block bytes is u fits;
        reading = record {
          kind = number-type bytes Kind.RedirectedHeader is;
          packet = record { whole = record { fixed = fixed; total = total }; version = six; header = header.1 };
          payload = refl;
        };
      },
    )
read_by bytes Kind.Mtu is u (one, t) = (
  mtu (number_of mtu_field bytes),
  record {
    block = other_block bytes _ is (λ e. cc) (λ e. cc) u;
    reading = record { kind = number-type bytes _ is; count = one; number = refl };
  },
)
read_by bytes (Kind.Unknown n) is u passes =
    let other : (t : ℕ) → byte_of type_field bytes ≡ t → type_of t ≡ Kind.Unknown n
    = λ t e. sym (ap type_of e) ∙ is in (
      unknown (byte_of type_field bytes) (units_in bytes) (bytes_of (data_field bytes) bytes),
      record {
        block = other_block bytes _ is (λ e. cc) (λ e. cc) u;
        reading = record {
          kind = refl;
          unnamed = (
            λ e. absurd (cc (other 1 e)),
            λ e. absurd (cc (other 2 e)),
            λ e. absurd (cc (other 3 e)),
            λ e. absurd (cc (other 4 e)),
            λ e. absurd (cc (other 5 e)),
          );
          count = refl;
          data_is = refl;
        };
      },
    )

-- ---- what is not read

-- a check by the type that fails, after those of the units
pub behind_units : (bytes : List ℕ) (k : Kind) (why : Refusal) → kind_in bytes ≡ k → Passes (unit_checks bytes)
    → Fails (type_checks k bytes) why → Refuses bytes why
behind_units bytes k why is (fixed, (some, (counted, t))) fails =
    inr (fixed, inr (some, inr (counted, subst (λ m. Fails (type_checks m bytes) why) (sym is) fails)))

pub packet_none : (bytes : List ℕ) → kind_in bytes ≡ Kind.RedirectedHeader → Passes (unit_checks bytes)
    → (IsRead bytes → ⊥) → Passes (type_checks Kind.RedirectedHeader bytes) → ⊥
packet_none bytes is u none passes = none (read_by bytes Kind.RedirectedHeader is u passes)

type_fails : (bytes : List ℕ) (k : Kind) → (k ≡ Kind.RedirectedHeader → 6 ≤ units_in bytes → ⊥)
    → (Passes (type_checks k bytes) → ⊥) → Fails (type_checks k bytes) (Refusal.Length k (units_in bytes))
type_fails bytes Kind.PrefixInformation few none = inl (λ four. none (four, tt), refl)
type_fails bytes Kind.RedirectedHeader few none = inl (few refl, refl)
type_fails bytes Kind.Mtu few none = inl (λ one. none (one, tt), refl)
type_fails bytes _ few none = absurd (none tt)

-- enough units that are not read, and are no redirected packet, do not fit their type
pub misfit : (bytes : List ℕ) (k : Kind) → kind_in bytes ≡ k → Passes (unit_checks bytes) → (IsRead bytes → ⊥)
    → (k ≡ Kind.RedirectedHeader → 6 ≤ units_in bytes → ⊥) → Refuses bytes (Refusal.Length k (units_in bytes))
misfit bytes k is u none few =
    behind_units bytes k _ is u (type_fails bytes k few (λ passes. none (read_by bytes k is u passes)))

-- units that are no block do not fit their type either
pub no_block : (bytes : List ℕ) → Passes (unit_checks bytes) → (BeginsWithBlock bytes → ⊥)
    → Refuses bytes (Refusal.Length (kind_in bytes) (units_in bytes))
no_block bytes u none =
    misfit bytes (kind_in bytes) refl u (λ read. none read.1.block) (λ is six. none (packet_block bytes is u six))

pub ruleset refusals = (packet_none, misfit, behind_units)
