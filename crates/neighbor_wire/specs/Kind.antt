-- The types of options (RFC 4861 section 4.6, RFC 3971 section 5.3.2, RFC 4191 section 2.3, RFC 8106 section 5, RFC
-- 8910 section 2.3, RFC 8781 section 4).
use Rattle.std.specs.Prelude.{ℕ, ◌==◌, if◌then◌else◌}
use Rattle.neighbor_wire.specs.declared.kind.Kind.{Kind}

abbrev pub kind_of : ℕ → Kind
kind_of t =
    if t == 1 then Kind.Source else if t == 2 then Kind.Target else if t == 3 then Kind.Prefix
    else if t == 5 then Kind.Mtu else if t == 14 then Kind.Nonce else if t == 24 then Kind.Route
    else if t == 25 then Kind.DnsServers else if t == 31 then Kind.SearchList
    else if t == 37 then Kind.CaptivePortal else if t == 38 then Kind.Nat64Prefix else Kind.Other
