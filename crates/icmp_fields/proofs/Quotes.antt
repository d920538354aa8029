-- What an error quotes without its extensions begins with the quoted header too.
use Rattle.std.proofs.Common.{◌∙◌, ◌*◌, ◌≤◌, [], ◌∷◌, Err, IfErr, IfOk, List, Ok, Result, arith, length}
use Rattle.std.proofs.Common.{suc, sym, subst}
use Rattle.std.proofs.Common.{take, zero, ℕ}
use Rattle.std.proofs.lemmas.List.{length-take, take_all}
use Rattle.extension_wire.specs.Split as split
use Rattle.extension_wire.specs.Split.{IsSplit}
use Rattle.extension_wire.specs.declared.family.Family.{Family}
use Rattle.extension_wire.specs.declared.refusal.SplitRefusal.{SplitRefusal}
use Rattle.extension_wire.specs.declared.split.Parts.{Parts}
use Rattle.quote_wire.specs.Icmpv4Error.{IsDatagram}
use Rattle.quote_wire.specs.Icmpv6Error.{IsPacketFront}
use Rattle.icmp_fields.specs.Extensions.{Division, IsDivision, quoted_in}
use Rattle.icmp_fields.specs.private.Reasons.{division_of}

pub is_division : (f : Family) (n : ℕ) (bytes : List ℕ) (r : Result Parts SplitRefusal)
    → IfOk r (λ parts. IsSplit f n bytes (split.value_of parts)) → IfErr r (split.Refuses f n bytes)
    → IsDivision f n bytes (division_of r)
is_division f n bytes (Ok parts) sound told = sound
is_division f n bytes (Err why) sound told = told

datagram_front : (n : ℕ) (bytes : List ℕ) → 128 ≤ n → IsDatagram bytes → IsDatagram (take n bytes)
datagram_front zero bytes long d = absurd (omega (arith, long))
datagram_front (suc n) [] long d = absurd (let header = d.header in omega arith)
datagram_front (suc n) (first ∷ rest) long d =
    let behind = d.behind in
    record {
      version = d.version;
      header = d.header;
      behind = omega (arith, behind, long, length-take {A = ℕ} (suc n) (first ∷ rest));
    }

packet_front : (n : ℕ) (bytes : List ℕ) → 128 ≤ n → IsPacketFront bytes → IsPacketFront (take n bytes)
packet_front zero bytes long d = absurd (omega (arith, long))
packet_front (suc n) [] long d = absurd (let header = d.header in omega arith)
packet_front (suc n) (first ∷ rest) long d =
    let header = d.header in
    record {
      version = d.version;
      header = omega (arith, header, long, length-take {A = ℕ} (suc n) (first ∷ rest));
    }

pub quoted_datagram : (n : ℕ) (bytes : List ℕ) (d : Division) → IsDivision Family.V4 n bytes d → IsDatagram bytes
    → IsDatagram (quoted_in d bytes)
quoted_datagram zero bytes (Ok parts) splits is =
    subst IsDatagram (sym (splits.quoted_is ∙ take_all (length bytes) bytes (omega arith))) is
quoted_datagram (suc n) bytes (Ok parts) splits is =
    subst IsDatagram (sym splits.quoted_is) (datagram_front (4 * suc n) bytes splits.passes.0 is)
quoted_datagram n bytes (Err why) refuses is = is

pub quoted_packet : (n : ℕ) (bytes : List ℕ) (d : Division) → IsDivision Family.V6 n bytes d → IsPacketFront bytes
    → IsPacketFront (quoted_in d bytes)
quoted_packet zero bytes (Ok parts) splits is =
    subst IsPacketFront (sym (splits.quoted_is ∙ take_all (length bytes) bytes (omega arith))) is
quoted_packet (suc n) bytes (Ok parts) splits is =
    subst IsPacketFront (sym splits.quoted_is) (packet_front (8 * suc n) bytes splits.passes.0 is)
quoted_packet n bytes (Err why) refuses is = is
