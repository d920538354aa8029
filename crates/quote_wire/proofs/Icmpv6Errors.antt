-- The ICMPv6 errors are a protocol's: their types have one number each, and the start of a packet is cut to one.
use Rattle.std.proofs.Common.{◌≡◌, ℕ, List, [], ◌∷◌, take, refl, arith}
use Rattle.std.proofs.lemmas.List.{length-take}
use Rattle.wirebase.specs.declared.capabilities.ChecksumCapabilities.{ChecksumCapabilities}
use Rattle.wirebase.specs.declared.ipv6.address.Ipv6Address.{Ipv6Address}
use Rattle.quote_wire.specs.declared.icmpv6_error.Kind.{Kind}
use Rattle.quote_wire.specs.Icmpv6Error.{kind_number, IsPacketFront, protocol}
use Rattle.quote_wire.proofs.ErrorFormat.{IsProtocol}

one_number : (a b : Kind) → kind_number a ≡ kind_number b → a ≡ b
one_number Kind.DstUnreachable Kind.DstUnreachable e = refl
one_number Kind.PktTooBig Kind.PktTooBig e = refl
one_number Kind.TimeExceeded Kind.TimeExceeded e = refl
one_number Kind.ParamProblem Kind.ParamProblem e = refl
one_number _ _ e = absurd (omega arith)

cut : (bytes : List ℕ) → IsPacketFront bytes → IsPacketFront (take 1232 bytes)
cut [] d = absurd (let header = d.header in omega arith)
cut (first ∷ rest) d =
    let header = d.header in
    record { version = d.version; header = omega (arith, header, length-take {A = ℕ} 1232 (first ∷ rest)) }

pub icmpv6_errors : (source destination : Ipv6Address) (capabilities : ChecksumCapabilities)
    → IsProtocol (protocol source destination capabilities)
icmpv6_errors source destination capabilities = record { one = one_number; cut = cut }
