-- The printed texts of messages of IGMP and their parts.
use Rattle.std.specs.Prelude.{ℕ, List, [], ◌∷◌, codes, decimal}
use Rattle.icmp4_wire.specs.Words.{IgmpVersion, address_text, pieces}
use Rattle.wirebase.specs.Duration.{duration_text}
use Rattle.icmp4_wire.specs.declared.igmp.tables.Message.{Message}
use Rattle.icmp4_wire.specs.declared.igmp.repr.Repr.{Repr}

-- the type of a message
abbrev pub message_display : Message → List ℕ
message_display Message.MembershipQuery = codes "membership query"
message_display Message.MembershipReportV2 = codes "version 2 membership report"
message_display Message.LeaveGroup = codes "leave group"
message_display Message.MembershipReportV1 = codes "version 1 membership report"
message_display (Message.Unknown n) = decimal n

-- a version, by its name
abbrev pub version_display : IgmpVersion → List ℕ
version_display IgmpVersion.Version1 = codes "Version1"
version_display IgmpVersion.Version2 = codes "Version2"

-- a message
abbrev pub repr_display : Repr → List ℕ
repr_display (Repr.MembershipQuery time group version) =
    pieces (codes "IGMP membership query max_resp_time=" ∷ duration_text time
    ∷ codes " group_addr=" ∷ address_text group
    ∷ codes " version=" ∷ version_display version ∷ [])
repr_display (Repr.MembershipReport group version) =
    pieces (codes "IGMP membership report group_addr=" ∷ address_text group
    ∷ codes " version=" ∷ version_display version ∷ [])
repr_display (Repr.LeaveGroup group) = pieces (codes "IGMP leave group group_addr=" ∷ address_text group ∷ [])

-- of octets that are refused
abbrev pub refused_display : List ℕ
refused_display = codes "IGMP (wire::Error)"
