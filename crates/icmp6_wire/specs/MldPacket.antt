-- Queries and reports of multicast listener discovery, version 2 (RFC 3810 sections 5.1 and 5.2), inside ICMPv6
-- messages.
--
--  0                   1                   2                   3
--  0 1 2 3 4 5 6 7 8 9 0 1 2 3 4 5 6 7 8 9 0 1 2 3 4 5 6 7 8 9 0 1
-- +---------------+---------------+-------------------------------+
-- |  type 0x82    |     code      |           checksum            |  a query
-- +---------------+---------------+-------------------------------+
-- |     maximum response code     |           reserved            |
-- +-------------------------------+-------------------------------+
-- |               multicast address, 16 bytes                     |
-- +-------+-+-----+---------------+-------------------------------+
-- |reservd|S| QRV |     QQIC      |       number of sources       |
-- +-------+-+-----+---------------+-------------------------------+
-- | sources
-- +- - - -
--
-- +---------------+---------------+-------------------------------+
-- |  type 0x8f    |     code      |           checksum            |  a report
-- +---------------+---------------+-------------------------------+
-- |           reserved            |       number of records       |
-- +-------------------------------+-------------------------------+
-- | records
-- +- - - -
use Rattle.std.specs.Prelude.{ℕ, ◌+◌, ◌*◌, ◌/◌, ◌%◌, ◌^◌, nat_lt, if◌then◌else◌, List}
use Rattle.icmp6_wire.specs.Words.{Field, field, byte_of}
use Rattle.icmp6_wire.specs.Icmpv6Packet.{sqrv_field}

-- of a query
abbrev pub max_resp_code_field : Field
max_resp_code_field = field 4 6

-- the milliseconds of a maximum response code below 65,536: below 32,768 as many as the code counts; from there on its
-- last twelve bits, with a one before them, are the mantissa of such a count, and its three bits above those, plus 3,
-- are the exponent (RFC 3810 section 5.1.3)
unfoldable pub resp_millis : ℕ → ℕ
resp_millis code = if nat_lt code 32768 then code else (4096 + code % 4096) * 2 ^ (code / 4096 % 8 + 3)

abbrev pub mcast_addr_field : Field
mcast_addr_field = field 8 24

abbrev pub qqic_field : Field
qqic_field = field 25 26

abbrev pub num_srcs_field : Field
num_srcs_field = field 26 28

-- of a report
abbrev pub nr_mcast_addr_rcrds_field : Field
nr_mcast_addr_rcrds_field = field 6 8

-- the flag S, by which routers leave their timers as they are, and the querier's robustness variable, three bits
abbrev pub s_flag_in : List ℕ → ℕ
s_flag_in bytes = byte_of sqrv_field bytes / 8 % 2

abbrev pub qrv_in : List ℕ → ℕ
qrv_in bytes = byte_of sqrv_field bytes % 8
