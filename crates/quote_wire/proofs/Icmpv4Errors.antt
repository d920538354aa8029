-- The ICMPv4 errors are a protocol's: their types have one number each, and the start of a datagram is cut to one.
use Rattle.std.proofs.Common.{◌≡◌, ℕ, List, [], ◌∷◌, take, refl, arith}
use Rattle.std.proofs.lemmas.List.{length-take}
use Rattle.wirebase.specs.declared.capabilities.ChecksumCapabilities.{ChecksumCapabilities}
use Rattle.quote_wire.specs.declared.icmpv4_error.Kind.{Kind}
use Rattle.quote_wire.specs.Icmpv4Error.{kind_number, IsDatagram, protocol}
use Rattle.quote_wire.proofs.ErrorFormat.{IsProtocol}

one_number : (a b : Kind) → kind_number a ≡ kind_number b → a ≡ b
one_number Kind.DstUnreachable Kind.DstUnreachable e = refl
one_number Kind.SourceQuench Kind.SourceQuench e = refl
one_number Kind.Redirect Kind.Redirect e = refl
one_number Kind.TimeExceeded Kind.TimeExceeded e = refl
one_number Kind.ParamProblem Kind.ParamProblem e = refl
one_number _ _ e = absurd (omega arith)

cut : (bytes : List ℕ) → IsDatagram bytes → IsDatagram (take 548 bytes)
cut [] d = absurd (let header = d.header in omega arith)
cut (first ∷ rest) d =
    let behind = d.behind in
    record {
      version = d.version;
      header = d.header;
      behind = omega (arith, behind, length-take {A = ℕ} 548 (first ∷ rest));
    }

pub icmpv4_errors : (capabilities : ChecksumCapabilities) → IsProtocol (protocol capabilities)
icmpv4_errors capabilities = record { one = one_number; cut = cut }
