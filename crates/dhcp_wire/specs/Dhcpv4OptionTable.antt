-- The kinds of option that have a name here, of IANA's registry of BOOTP vendor extensions and DHCP options, each in
-- words of the RFC that defines it and with the format of its data.
use Rattle.std.specs.Prelude.{ℕ, ◌==◌, if◌then◌else◌, List, [], ◌∷◌, Option, None, Some, codes}
use Rattle.std.specs.Option.{option_map}
use Rattle.dhcp_wire.specs.declared.dhcpv4.table.Format.{Format}

-- a name and a format, with the kind that has them
abbrev pub Rows : Type 0
Rows = List ((List ℕ × Format) × ℕ)

-- RFC 2132 sections 3 and 4: the options of RFC 1497, and the IP layer of a host
abbrev pub host_rows : Rows
host_rows =
    ((codes "subnet-mask", Format.Address), 1) ∷ ((codes "time-offset", Format.Octets), 2)
    ∷ ((codes "router", Format.Addresses), 3) ∷ ((codes "time-server", Format.Addresses), 4)
    ∷ ((codes "name-server", Format.Addresses), 5) ∷ ((codes "domain-name-server", Format.Addresses), 6)
    ∷ ((codes "log-server", Format.Addresses), 7) ∷ ((codes "cookie-server", Format.Addresses), 8)
    ∷ ((codes "lpr-server", Format.Addresses), 9) ∷ ((codes "impress-server", Format.Addresses), 10)
    ∷ ((codes "resource-location-server", Format.Addresses), 11) ∷ ((codes "host-name", Format.Text), 12)
    ∷ ((codes "boot-file-size", Format.Number), 13) ∷ ((codes "merit-dump", Format.Text), 14)
    ∷ ((codes "domain-name", Format.Text), 15) ∷ ((codes "swap-server", Format.Address), 16)
    ∷ ((codes "root-path", Format.Text), 17) ∷ ((codes "extensions-path", Format.Text), 18)
    ∷ ((codes "ip-forwarding", Format.Byte), 19) ∷ ((codes "non-local-source-routing", Format.Byte), 20)
    ∷ ((codes "policy-filter", Format.Addresses), 21) ∷ ((codes "max-datagram-reassembly", Format.Number), 22)
    ∷ ((codes "default-ttl", Format.Byte), 23) ∷ ((codes "path-mtu-aging-timeout", Format.Seconds), 24)
    ∷ ((codes "path-mtu-plateau-table", Format.Octets), 25) ∷ []

-- RFC 2132 sections 5 to 8: interfaces, links, TCP, and services
abbrev pub interface_rows : Rows
interface_rows =
    ((codes "interface-mtu", Format.Number), 26) ∷ ((codes "all-subnets-local", Format.Byte), 27)
    ∷ ((codes "broadcast-address", Format.Address), 28) ∷ ((codes "perform-mask-discovery", Format.Byte), 29)
    ∷ ((codes "mask-supplier", Format.Byte), 30) ∷ ((codes "perform-router-discovery", Format.Byte), 31)
    ∷ ((codes "router-solicitation-address", Format.Address), 32) ∷ ((codes "static-routes", Format.Addresses), 33)
    ∷ ((codes "trailer-encapsulation", Format.Byte), 34) ∷ ((codes "arp-cache-timeout", Format.Seconds), 35)
    ∷ ((codes "ethernet-encapsulation", Format.Byte), 36) ∷ ((codes "tcp-default-ttl", Format.Byte), 37)
    ∷ ((codes "tcp-keepalive-interval", Format.Seconds), 38) ∷ ((codes "tcp-keepalive-garbage", Format.Byte), 39)
    ∷ ((codes "nis-domain", Format.Text), 40) ∷ ((codes "nis-servers", Format.Addresses), 41)
    ∷ ((codes "ntp-servers", Format.Addresses), 42) ∷ ((codes "vendor-specific-information", Format.Octets), 43)
    ∷ ((codes "netbios-name-servers", Format.Addresses), 44)
    ∷ ((codes "netbios-distribution-servers", Format.Addresses), 45)
    ∷ ((codes "netbios-node-type", Format.Byte), 46) ∷ ((codes "netbios-scope", Format.Text), 47)
    ∷ ((codes "font-servers", Format.Addresses), 48) ∷ ((codes "x-display-managers", Format.Addresses), 49) ∷ []

-- RFC 2132 sections 8 and 9: DHCP, and later services
abbrev pub dhcp_rows : Rows
dhcp_rows =
    ((codes "requested-address", Format.Address), 50) ∷ ((codes "lease-time", Format.Seconds), 51)
    ∷ ((codes "option-overload", Format.Byte), 52) ∷ ((codes "message-type", Format.MessageType), 53)
    ∷ ((codes "server-identifier", Format.Address), 54) ∷ ((codes "parameter-request-list", Format.Kinds), 55)
    ∷ ((codes "message", Format.Text), 56) ∷ ((codes "max-message-size", Format.Number), 57)
    ∷ ((codes "renewal-time", Format.Seconds), 58) ∷ ((codes "rebinding-time", Format.Seconds), 59)
    ∷ ((codes "vendor-class-identifier", Format.Text), 60) ∷ ((codes "client-identifier", Format.Octets), 61)
    ∷ ((codes "nisplus-domain", Format.Text), 64) ∷ ((codes "nisplus-servers", Format.Addresses), 65)
    ∷ ((codes "tftp-server-name", Format.Text), 66) ∷ ((codes "bootfile-name", Format.Text), 67)
    ∷ ((codes "mobile-ip-home-agent", Format.Addresses), 68) ∷ ((codes "smtp-server", Format.Addresses), 69)
    ∷ ((codes "pop-server", Format.Addresses), 70) ∷ ((codes "nntp-server", Format.Addresses), 71)
    ∷ ((codes "www-server", Format.Addresses), 72) ∷ ((codes "finger-server", Format.Addresses), 73)
    ∷ ((codes "irc-server", Format.Addresses), 74) ∷ ((codes "streettalk-server", Format.Addresses), 75)
    ∷ ((codes "streettalk-directory-assistance-server", Format.Addresses), 76) ∷ []

-- RFC 3004 (77), RFC 4039 (80), RFC 4702 (81), RFC 3046 (82), RFC 4578 (93, 94 and 97), RFC 4833 (100 and 101), RFC
-- 8925 (108), RFC 8910 (114), RFC 2563 (116), RFC 3011 (118), RFC 3397 (119), RFC 3361 (120), RFC 3442 (121), RFC 3925
-- (124 and 125), RFC 5417 (138) and RFC 5859 (150)
abbrev pub later_rows : Rows
later_rows =
    ((codes "user-class", Format.Octets), 77) ∷ ((codes "rapid-commit", Format.Octets), 80)
    ∷ ((codes "client-fqdn", Format.Octets), 81) ∷ ((codes "relay-agent-information", Format.Octets), 82)
    ∷ ((codes "client-system-architecture", Format.Number), 93)
    ∷ ((codes "client-network-interface", Format.Octets), 94)
    ∷ ((codes "client-machine-identifier", Format.Octets), 97) ∷ ((codes "posix-timezone", Format.Text), 100)
    ∷ ((codes "tzdb-timezone", Format.Text), 101) ∷ ((codes "ipv6-only-preferred", Format.Seconds), 108)
    ∷ ((codes "captive-portal", Format.Text), 114) ∷ ((codes "auto-configure", Format.Byte), 116)
    ∷ ((codes "subnet-selection", Format.Address), 118) ∷ ((codes "domain-search", Format.Octets), 119)
    ∷ ((codes "sip-servers", Format.Octets), 120) ∷ ((codes "classless-static-route", Format.Octets), 121)
    ∷ ((codes "vendor-class", Format.Octets), 124) ∷ ((codes "vendor-information", Format.Octets), 125)
    ∷ ((codes "capwap-access-controllers", Format.Addresses), 138)
    ∷ ((codes "tftp-server-addresses", Format.Addresses), 150) ∷ []

-- the entry of a kind in such rows, or another one where they have none
abbrev pub entry_in : Rows → Option (List ℕ × Format) → ℕ → Option (List ℕ × Format)
entry_in [] other kind = other
entry_in (row ∷ rest) other kind = if kind == row.1 then Some row.0 else entry_in rest other kind

unfoldable pub later_entry : ℕ → Option (List ℕ × Format)
later_entry kind = entry_in later_rows None kind

unfoldable pub dhcp_entry : ℕ → Option (List ℕ × Format)
dhcp_entry kind = entry_in dhcp_rows (later_entry kind) kind

unfoldable pub interface_entry : ℕ → Option (List ℕ × Format)
interface_entry kind = entry_in interface_rows (dhcp_entry kind) kind

unfoldable pub entry_of : ℕ → Option (List ℕ × Format)
entry_of kind = entry_in host_rows (interface_entry kind) kind

-- the name of a kind, where it has one here
abbrev pub name_of : ℕ → Option (List ℕ)
name_of kind = option_map (λ entry. entry.0) (entry_of kind)

-- the format of its data; of a kind without a name none is known
abbrev pub format_or : Option (List ℕ × Format) → Format
format_or None = Format.Octets
format_or (Some entry) = entry.1

abbrev pub format_of : ℕ → Format
format_of kind = format_or (entry_of kind)
