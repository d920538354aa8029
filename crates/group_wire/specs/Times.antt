-- The times of queries (RFC 2236 section 2.2, RFC 3376 sections 4.1.1 and 4.1.7, RFC 2710 section 3.4, RFC 3810
-- section 5.1.3), and the versions of messages (RFC 3376 section 7.1, RFC 3810 section 8.1).
use Rattle.std.specs.Prelude.{ℕ, zero, suc, ◌*◌, ◌/◌, ◌%◌, Option, None, Some}
use Rattle.icmp4_wire.specs.IgmpCode.{code_millis}
use Rattle.icmp6_wire.specs.MldPacket.{resp_millis}
use Rattle.group_wire.specs.declared.family.Family.{Family}
use Rattle.group_wire.specs.Membership.{Value, older_query, query, oldest_report, older_report, leave, report}

-- the tenths of a second of a query of version 2 of IGMP in milliseconds; a query of version 1 has the code 0, and asks
-- for answers in ten seconds (RFC 2236 section 4)
abbrev pub tenths_millis : ℕ → ℕ
tenths_millis zero = 10000
tenths_millis (suc code) = 100 * suc code

-- The milliseconds of the response code of a query of an older version: in IGMP, where a code has 8 bits, tenths of a
-- second, and in MLD milliseconds.
abbrev pub older_millis : Family → ℕ → ℕ
older_millis Family.Igmp code = tenths_millis (code % 256)
older_millis Family.Mld code = code

-- those of a query of the newest version
abbrev pub query_millis : Family → ℕ → ℕ
query_millis Family.Igmp code = code_millis (code % 256)
query_millis Family.Mld code = resp_millis code

-- the milliseconds of the maximum response time; only queries have one
abbrev pub max_resp_millis : Family → Value → Option ℕ
max_resp_millis f (older_query code group) = Some (older_millis f code)
max_resp_millis f (query code group flag qrv qqic sources) = Some (query_millis f code)
max_resp_millis f v = None

-- the seconds of the querier's interval, whose code is that of a response time of IGMP in another unit
abbrev pub interval_seconds : ℕ → ℕ
interval_seconds code = code_millis code / 100

-- the version of a message of an older version: 2 of IGMP, 1 of MLD
abbrev pub older_version : Family → ℕ
older_version Family.Igmp = 2
older_version Family.Mld = 1

-- that of a query of an older version, by its code
abbrev pub tenths_version : ℕ → ℕ
tenths_version zero = 1
tenths_version (suc code) = 2

abbrev pub query_version : Family → ℕ → ℕ
query_version Family.Igmp code = tenths_version (code % 256)
query_version Family.Mld code = 1

abbrev pub newest_version : Family → ℕ
newest_version Family.Igmp = 3
newest_version Family.Mld = 2

abbrev pub version_of : Family → Value → ℕ
version_of f (older_query code group) = query_version f code
version_of f (query code group flag qrv qqic sources) = newest_version f
version_of f (oldest_report group) = 1
version_of f (older_report group) = older_version f
version_of f (leave group) = older_version f
version_of f (report count records) = newest_version f
