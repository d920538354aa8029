-- What an IGMP message prints.
use Rattle.std.specs.Prelude.{◌++◌, List, ℕ, codes}
use Rattle.listing.specs.Words.{address_text}
use Rattle.icmp4_wire.specs.Igmp.{IsMessage}
use Rattle.icmp4_wire.specs.declared.igmp.repr.IgmpVersion.{IgmpVersion}
use Rattle.icmp4_wire.specs.declared.igmp.repr.Repr.{Repr}
use Rattle.listing.specs.Layout.{line, field, millis_text, IsListingOrRefused}

-- the version of IGMP: its number
abbrev pub version_text : IgmpVersion → List ℕ
version_text IgmpVersion.Version1 = codes "1"
version_text IgmpVersion.Version2 = codes "2"

abbrev pub igmp_listing : Repr → List ℕ
igmp_listing (Repr.MembershipQuery time group version) =
    line (codes "MembershipQuery")
    ++ field (codes "max_resp_time") (millis_text time)
    ++ field (codes "group_addr") (address_text group)
    ++ field (codes "version") (version_text version)
igmp_listing (Repr.MembershipReport group version) =
    line (codes "MembershipReport")
    ++ field (codes "group_addr") (address_text group)
    ++ field (codes "version") (version_text version)
igmp_listing (Repr.LeaveGroup group) =
    line (codes "LeaveGroup")
    ++ field (codes "group_addr") (address_text group)

abbrev pub IgmpPrints : List ℕ → List ℕ → Type 0
IgmpPrints octets = IsListingOrRefused (IsMessage octets) igmp_listing
