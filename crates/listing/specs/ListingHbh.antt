-- What the options of a hop-by-hop header print, each after the other.
use Rattle.std.specs.Prelude.{◌++◌, List, ℕ, codes, decimal, flat_map}
use Rattle.listing.specs.Words.{octets_text}
use Rattle.wirebase.specs.declared.config.TheConstants.{IPV6_HBH_MAX_OPTIONS}
use Rattle.opt_wire.specs.Ipv6Hbh.{IsHeader}
use Rattle.opt_wire.specs.Ipv6Option.{OptionValue, pad1, pad_n, router_alert, unknown}
use Rattle.opt_wire.specs.Ipv6OptionTables.{type_number, alert_number}
use Rattle.listing.specs.Layout.{line, field, IsListingOrRefused}

abbrev pub option_listing : OptionValue → List ℕ
option_listing pad1 = line (codes "Pad1")
option_listing (pad_n n) = field (codes "PadN") (decimal n)
option_listing (router_alert a) = field (codes "RouterAlert") (decimal (alert_number a))
option_listing (unknown k n d) =
    line (codes "Unknown")
    ++ field (codes "type_") (decimal (type_number k))
    ++ field (codes "length") (decimal n)
    ++ field (codes "data") (octets_text d)

abbrev pub options_listing : List OptionValue → List ℕ
options_listing options = flat_map option_listing options

abbrev pub HbhPrints : List ℕ → List ℕ → Type 0
HbhPrints octets = IsListingOrRefused (IsHeader IPV6_HBH_MAX_OPTIONS octets) options_listing
