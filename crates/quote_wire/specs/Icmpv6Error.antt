-- Errors of ICMPv6 (RFC 4443 section 3): a destination that is unreachable, a packet that is too big, a time that was
-- exceeded, a parameter that is wrong.
use Rattle.std.specs.Prelude.{◌≡◌, ℕ, ◌/◌, ◌%◌, ◌^◌, ◌==◌, ◌≤◌, List, [], ◌∷◌, length, slice_index, if◌then◌else◌}
use Rattle.std.specs.Prelude.{Option, Some, None, codes, decimal}
use Rattle.wirebase.specs.declared.capabilities.ChecksumCapabilities.{ChecksumCapabilities}
use Rattle.wirebase.specs.declared.ip.IpProtocol.{IpProtocol}
use Rattle.wirebase.specs.declared.ipv6.address.Ipv6Address.{Ipv6Address}
use Rattle.wirebase.specs.Ipv6.{pseudo_sum}
use Rattle.wirebase.specs.Display.{pieces}
use Rattle.quote_wire.specs.declared.icmpv6_error.Kind.{Kind}
use Rattle.quote_wire.specs.declared.icmpv6_error.Repr.{Repr}
use Rattle.quote_wire.specs.Error.{Protocol, ErrorValue, mtu_display, pointer_display}
use Rattle.quote_wire.specs.Icmpv6Reason.{reason_of}
use Rattle.quote_wire.specs.Quote.{RefusesIpv6}

-- the types of error
abbrev pub kind_number : Kind → ℕ
kind_number Kind.DstUnreachable = 1
kind_number Kind.PktTooBig = 2
kind_number Kind.TimeExceeded = 3
kind_number Kind.ParamProblem = 4

-- the start of an IPv6 packet: its header, of version 6, whatever its payload length says
pub record IsPacketFront (bytes : List ℕ) : Type 0 where
  pub version : slice_index bytes 0 / 16 ≡ 6
  pub header : 40 ≤ length bytes

-- the sum of the pseudo header of an error of this many bytes (RFC 4443 section 2.3, RFC 8200 section 8.1)
abbrev pub extra_sum : Ipv6Address → Ipv6Address → ℕ → ℕ
extra_sum source destination n = pseudo_sum source destination IpProtocol.Icmpv6 (n % 2 ^ 32)

-- An error has at most 1,280 bytes with the 40 of its own IPv6 header (RFC 4443 section 2.4(c)), and so it quotes at
-- most 1,232. The pseudo header counts in its checksum.
abbrev pub protocol : Ipv6Address → Ipv6Address → ChecksumCapabilities → Protocol Kind
protocol source destination capabilities = record {
  number = kind_number;
  IsQuoted = IsPacketFront;
  RefusesQuote = RefusesIpv6;
  most = 1232;
  checksum = capabilities.icmpv6;
  extra = extra_sum source destination;
}

abbrev pub value_of : Repr → ErrorValue Kind
value_of repr = record { kind = repr.kind; code = repr.code; rest = repr.rest; quoted = repr.quoted.now }

-- the MTU of the next link that an error tells: of a packet that is too big for it
abbrev pub mtu_in : ErrorValue Kind → Option ℕ
mtu_in v = if kind_number v.kind == 2 then Some v.rest else None

-- the place that a parameter problem tells
abbrev pub pointer_in : ErrorValue Kind → Option ℕ
pointer_in v = if kind_number v.kind == 4 then Some v.rest else None

-- the length of the quoted packet in 64 bit words, where extensions may follow it: the first byte after the checksum of
-- the types that may have some (RFC 4884 section 4)
abbrev pub length_by : Kind → ℕ → ℕ
length_by Kind.DstUnreachable rest = rest / 2 ^ 24
length_by Kind.PktTooBig rest = 0
length_by Kind.TimeExceeded rest = rest / 2 ^ 24
length_by Kind.ParamProblem rest = 0

abbrev pub length_in : ErrorValue Kind → ℕ
length_in v = length_by v.kind v.rest

-- what a type prints, and what an error does
abbrev pub kind_display : Kind → List ℕ
kind_display Kind.DstUnreachable = codes "destination unreachable"
kind_display Kind.PktTooBig = codes "packet too big"
kind_display Kind.TimeExceeded = codes "time exceeded"
kind_display Kind.ParamProblem = codes "parameter problem"

-- with what its code says, and what it tells after the checksum
abbrev pub shown : ErrorValue Kind → Option (List ℕ) → List ℕ
shown v None =
    pieces (codes "ICMPv6 " ∷ kind_display v.kind ∷ codes " code=" ∷ decimal v.code
    ∷ mtu_display (mtu_in v) ∷ pointer_display (pointer_in v)
    ∷ codes " quoted=" ∷ decimal (length v.quoted) ∷ [])
shown v (Some reason) =
    pieces (codes "ICMPv6 " ∷ kind_display v.kind ∷ codes " code=" ∷ decimal v.code
    ∷ codes " (" ∷ reason ∷ codes ")"
    ∷ mtu_display (mtu_in v) ∷ pointer_display (pointer_in v)
    ∷ codes " quoted=" ∷ decimal (length v.quoted) ∷ [])

abbrev pub repr_display : ErrorValue Kind → List ℕ
repr_display v = shown v (reason_of v.kind v.code)
