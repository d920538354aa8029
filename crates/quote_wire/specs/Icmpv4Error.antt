-- Errors of ICMPv4 (RFC 792): a destination that is unreachable, a source that is to send less, a better gateway, a
-- time that was exceeded, a parameter that is wrong.
use Rattle.std.specs.Prelude.{◌≡◌, ℕ, zero, ◌+◌, ◌/◌, ◌%◌, ◌==◌, ◌≤◌, ◌^◌, List, [], ◌∷◌, length}
use Rattle.std.specs.Prelude.{if◌then◌else◌, Option, Some, None, codes, decimal}
use Rattle.std.specs.List.{join_by}
use Rattle.wirebase.specs.declared.capabilities.ChecksumCapabilities.{ChecksumCapabilities}
use Rattle.wirebase.specs.Bytes.{byte_of}
use Rattle.wirebase.specs.ByteWriter.{be32}
use Rattle.wirebase.specs.Ipv4.{ihl_field, header_len_in}
use Rattle.wirebase.specs.Display.{pieces}
use Rattle.quote_wire.specs.declared.icmpv4_error.Kind.{Kind}
use Rattle.quote_wire.specs.declared.icmpv4_error.Repr.{Repr}
use Rattle.quote_wire.specs.Error.{Protocol, ErrorValue, mtu_display, pointer_display}
use Rattle.quote_wire.specs.Icmpv4Reason.{reason_of}
use Rattle.quote_wire.specs.Quote.{RefusesIpv4}

-- the types of error
abbrev pub kind_number : Kind → ℕ
kind_number Kind.DstUnreachable = 3
kind_number Kind.SourceQuench = 4
kind_number Kind.Redirect = 5
kind_number Kind.TimeExceeded = 11
kind_number Kind.ParamProblem = 12

-- The start of an IPv4 datagram: its header, of version 4 and 20 bytes or more by its own length, and 8 bytes or more
-- after it, whatever its total length says (RFC 792).
pub record IsDatagram (bytes : List ℕ) : Type 0 where
  pub version : byte_of ihl_field bytes / 16 ≡ 4
  pub header : 20 ≤ header_len_in bytes
  pub behind : header_len_in bytes + 8 ≤ length bytes

-- An error has at most 576 bytes with the 20 of its own IPv4 header (RFC 1812 section 4.3.2.3), and so it quotes at
-- most 548. No pseudo header counts in its checksum.
abbrev pub protocol : ChecksumCapabilities → Protocol Kind
protocol capabilities = record {
  number = kind_number;
  IsQuoted = IsDatagram;
  RefusesQuote = RefusesIpv4;
  most = 548;
  checksum = capabilities.icmpv4;
  extra = λ n. 0;
}

abbrev pub value_of : Repr → ErrorValue Kind
value_of repr = record { kind = repr.kind; code = repr.code; rest = repr.rest; quoted = repr.quoted.now }

-- the MTU of the next link that an error tells: of one that asks for a smaller datagram, and not 0 (RFC 1191 section 4)
abbrev pub told_mtu : ℕ → Option ℕ
told_mtu zero = None
told_mtu n = Some n

abbrev pub next_hop_mtu_in : ErrorValue Kind → Option ℕ
next_hop_mtu_in v = if kind_number v.kind == 3 then (if v.code == 4 then told_mtu (v.rest % 2 ^ 16) else None) else None

-- the octets of the gateway's address that a redirect tells, and the place that a parameter problem tells, in the
-- first byte
abbrev pub gateway_in : ErrorValue Kind → Option (List ℕ)
gateway_in v = if kind_number v.kind == 5 then Some (be32 v.rest) else None

abbrev pub pointer_in : ErrorValue Kind → Option ℕ
pointer_in v = if kind_number v.kind == 12 then Some (v.rest / 2 ^ 24) else None

-- the length of the quoted datagram in 32 bit words, where extensions may follow it: the second byte after the checksum
-- of the types that may have some (RFC 4884 section 4)
abbrev pub length_by : Kind → ℕ → ℕ
length_by Kind.DstUnreachable rest = rest / 2 ^ 16 % 2 ^ 8
length_by Kind.SourceQuench rest = 0
length_by Kind.Redirect rest = 0
length_by Kind.TimeExceeded rest = rest / 2 ^ 16 % 2 ^ 8
length_by Kind.ParamProblem rest = rest / 2 ^ 16 % 2 ^ 8

abbrev pub length_in : ErrorValue Kind → ℕ
length_in v = length_by v.kind v.rest

-- what a type prints, and what an error does
abbrev pub kind_display : Kind → List ℕ
kind_display Kind.DstUnreachable = codes "destination unreachable"
kind_display Kind.SourceQuench = codes "source quench"
kind_display Kind.Redirect = codes "redirect"
kind_display Kind.TimeExceeded = codes "time exceeded"
kind_display Kind.ParamProblem = codes "parameter problem"

-- the gateway's address by its octets, in decimal with dots between them; nothing where the error tells none
unfoldable pub gateway_display : Option (List ℕ) → List ℕ
gateway_display None = []
gateway_display (Some octets) = pieces (codes " gateway=" ∷ join_by decimal (codes ".") octets ∷ [])

-- with what its code says, and what it tells after the checksum
abbrev pub shown : ErrorValue Kind → Option (List ℕ) → List ℕ
shown v None =
    pieces (codes "ICMPv4 " ∷ kind_display v.kind ∷ codes " code=" ∷ decimal v.code
    ∷ mtu_display (next_hop_mtu_in v) ∷ gateway_display (gateway_in v) ∷ pointer_display (pointer_in v)
    ∷ codes " quoted=" ∷ decimal (length v.quoted) ∷ [])
shown v (Some reason) =
    pieces (codes "ICMPv4 " ∷ kind_display v.kind ∷ codes " code=" ∷ decimal v.code
    ∷ codes " (" ∷ reason ∷ codes ")"
    ∷ mtu_display (next_hop_mtu_in v) ∷ gateway_display (gateway_in v) ∷ pointer_display (pointer_in v)
    ∷ codes " quoted=" ∷ decimal (length v.quoted) ∷ [])

abbrev pub repr_display : ErrorValue Kind → List ℕ
repr_display v = shown v (reason_of v.kind v.code)
