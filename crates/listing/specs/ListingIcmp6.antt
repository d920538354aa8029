-- What an ICMPv6 message prints.
use Rattle.std.specs.Prelude.{◌≡◌, ◌++◌, List, ℕ, codes, decimal}
use Rattle.listing.specs.Words.{Checksum, Ipv6Address, Ipv6Repr, all_of, octets_of, octets_text}
use Rattle.icmp6_wire.specs.Icmpv6.{IsMessage, MessageValue, unreachable, too_big, time_exceeded, param_problem}
use Rattle.icmp6_wire.specs.Icmpv6.{echo_request, echo_reply, mld, ndisc}
use Rattle.icmp6_wire.specs.Icmpv6Tables.{unreachable_number, param_problem_number, time_exceeded_number}
use Rattle.listing.specs.Layout.{line, field, IsListingOrRefused}
use Rattle.listing.specs.ListingIcmp4.{echo_listing}
use Rattle.listing.specs.ListingIpv6.{header_listing}
use Rattle.listing.specs.ListingMld.{mld_listing}
use Rattle.listing.specs.ListingNdisc.{ndisc_listing}

-- the packet in an error
abbrev pub quote_listing : Ipv6Repr → List ℕ → List ℕ
quote_listing quoted d = header_listing (codes "header.") quoted ++ field (codes "data") (octets_text d)

-- an error: its name, the number of its reason, and that packet
abbrev pub error_listing : List ℕ → ℕ → Ipv6Repr → List ℕ → List ℕ
error_listing name reason quoted d =
    line name
    ++ field (codes "reason") (decimal reason)
    ++ quote_listing quoted d

abbrev pub icmp6_listing : MessageValue → List ℕ
icmp6_listing (unreachable reason quoted d) =
    error_listing (codes "DstUnreachable") (unreachable_number reason) quoted d
icmp6_listing (too_big mtu quoted d) =
    line (codes "PktTooBig")
    ++ field (codes "mtu") (decimal mtu)
    ++ quote_listing quoted d
icmp6_listing (time_exceeded reason quoted d) =
    error_listing (codes "TimeExceeded") (time_exceeded_number reason) quoted d
icmp6_listing (param_problem reason pointer quoted d) =
    line (codes "ParamProblem")
    ++ field (codes "reason") (decimal (param_problem_number reason))
    ++ field (codes "pointer") (decimal pointer)
    ++ quote_listing quoted d
icmp6_listing (echo_request ident seq_no d) = echo_listing (codes "EchoRequest") ident seq_no d
icmp6_listing (echo_reply ident seq_no d) = echo_listing (codes "EchoReply") ident seq_no d
icmp6_listing (ndisc message) = ndisc_listing message
icmp6_listing (mld message) = mld_listing message

-- a message between the addresses of these octets
abbrev pub Icmp6Prints : List ℕ → List ℕ → List ℕ → List ℕ → Type 0
Icmp6Prints source destination octets text =
    (from : Ipv6Address) × (to : Ipv6Address) × (octets_of from ≡ source) × (octets_of to ≡ destination)
    × IsListingOrRefused (IsMessage (all_of Checksum.Both) from to octets) icmp6_listing text
