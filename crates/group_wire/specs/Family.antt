-- The two protocols, and what differs between their messages: IGMP over IPv4 (RFC 1112 appendix I, RFC 2236, RFC 3376)
-- and MLD over IPv6 (RFC 2710, RFC 3810).
use Rattle.std.specs.Prelude.{ℕ, ◌+◌, ◌==◌, if◌then◌else◌, Option, Some, None}
use Rattle.group_wire.specs.declared.family.Family.{Family}
use Rattle.group_wire.specs.declared.family.Kind.{Kind}

-- the bytes of an address
abbrev pub width : Family → ℕ
width Family.Igmp = 4
width Family.Mld = 16

-- where the group of a message with one group begins, behind the response time, and where it ends: the bytes of a
-- message of an older version
abbrev pub group_at : Family → ℕ
group_at Family.Igmp = 4
group_at Family.Mld = 8

abbrev pub older_len : Family → ℕ
older_len f = group_at f + width f

-- the types of messages (RFC 3376 section 4, RFC 3810 section 5, RFC 2710 section 3.1); MLD has one type of older
-- report
abbrev pub kind_number : Family → Kind → ℕ
kind_number Family.Igmp Kind.Query = 0x11
kind_number Family.Igmp Kind.OldestReport = 0x12
kind_number Family.Igmp Kind.OlderReport = 0x16
kind_number Family.Igmp Kind.Leave = 0x17
kind_number Family.Igmp Kind.Report = 0x22
kind_number Family.Mld Kind.Query = 130
kind_number Family.Mld Kind.OldestReport = 131
kind_number Family.Mld Kind.OlderReport = 131
kind_number Family.Mld Kind.Leave = 132
kind_number Family.Mld Kind.Report = 143

-- the kind of a type
abbrev pub kind_of : Family → ℕ → Option Kind
kind_of Family.Igmp t =
    if t == 0x11 then Some Kind.Query else if t == 0x12 then Some Kind.OldestReport
    else if t == 0x16 then Some Kind.OlderReport else if t == 0x17 then Some Kind.Leave
    else if t == 0x22 then Some Kind.Report else None
kind_of Family.Mld t =
    if t == 130 then Some Kind.Query else if t == 131 then Some Kind.OlderReport
    else if t == 132 then Some Kind.Leave else if t == 143 then Some Kind.Report else None
