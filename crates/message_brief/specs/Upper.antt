-- What the headers that extend IPv6 lead to in a quote (RFC 8200 section 4), as `upper` of quote_wire tells it.
use Rattle.std.specs.Prelude.{◌==◌, ◌&&◌, Bool, List, None, Option, Some, ℕ, drop, false, if◌then◌else◌, length, nat_le}
use Rattle.std.specs.Prelude.{slice_index, suc, true, zero}
use Rattle.wirebase.specs.Ip.{protocol_of}
use Rattle.wirebase.specs.declared.ip.IpProtocol.{IpProtocol}
use Rattle.frame_wire.specs.DatagramHeaders.{extension_end}
use Rattle.quote_wire.specs.Upper.{UpperValue, frag_offset_in}

-- headers of these protocols are passed: options, routing, fragments
abbrev pub is_passed : IpProtocol → Bool
is_passed IpProtocol.HopByHop = true
is_passed IpProtocol.Ipv6Route = true
is_passed IpProtocol.Ipv6Opts = true
is_passed IpProtocol.Ipv6Frag = true
is_passed _ = false

-- the octets begin with a whole header of options or of routing, and with that of a first fragment
abbrev pub has_extension : List ℕ → Bool
has_extension bytes = nat_le 8 (length bytes) && nat_le (extension_end bytes) (length bytes)

abbrev pub has_first_fragment : List ℕ → Bool
has_first_fragment bytes = nat_le 8 (length bytes) && (frag_offset_in bytes == 0)

-- whether a header leads on, and where it ends
abbrev pub leads_on : IpProtocol → List ℕ → Bool
leads_on IpProtocol.Ipv6Frag bytes = has_first_fragment bytes
leads_on _ bytes = has_extension bytes

abbrev pub end_in : IpProtocol → List ℕ → ℕ
end_in IpProtocol.Ipv6Frag bytes = 8
end_in _ bytes = extension_end bytes

-- what a protocol and the octets behind it lead to, past fewer than `count` headers
abbrev pub upper_within : ℕ → IpProtocol → List ℕ → Option UpperValue
upper_within zero p bytes = None
upper_within (suc count) p bytes =
    if is_passed p
    then (if leads_on p bytes
    then upper_within count (protocol_of (slice_index bytes 0)) (drop (end_in p bytes) bytes)
    else None)
    else Some (record { protocol = p; octets = bytes })

-- past as many as there are: each has octets
abbrev pub upper_in : IpProtocol → List ℕ → Option UpperValue
upper_in p bytes = upper_within (suc (length bytes)) p bytes
