-- What a message of multicast listener discovery prints.
use Rattle.std.specs.Prelude.{◌++◌, List, ℕ, codes, decimal}
use Rattle.listing.specs.Words.{octets_text, truth_text}
use Rattle.icmp6_wire.specs.Mld.{IsMessage, MldValue, query, report, records}
use Rattle.listing.specs.Layout.{line, field, IsListingOrRefused}
use Rattle.listing.specs.ListingIpv6.{address_text}

-- no octets are read as a report by its records, so none are printed
abbrev pub mld_listing : MldValue → List ℕ
mld_listing (query code group flag qrv qqic sources d) =
    line (codes "Query")
    ++ field (codes "max_resp_code") (decimal code)
    ++ field (codes "mcast_addr") (address_text group)
    ++ field (codes "s_flag") (truth_text flag)
    ++ field (codes "qrv") (decimal qrv)
    ++ field (codes "qqic") (decimal qqic)
    ++ field (codes "num_srcs") (decimal sources)
    ++ field (codes "data") (octets_text d)
mld_listing (report count d) =
    line (codes "Report")
    ++ field (codes "nr_mcast_addr_rcrds") (decimal count)
    ++ field (codes "data") (octets_text d)
mld_listing (records rs) = line (codes "ReportRecordReprs")

abbrev pub MldPrints : List ℕ → List ℕ → Type 0
MldPrints octets = IsListingOrRefused (IsMessage octets) mld_listing
