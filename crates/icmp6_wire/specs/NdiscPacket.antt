-- The fields of neighbor discovery messages after the checksum (RFC 4861 sections 4.1 to 4.5).
--
-- Of a router advertisement:
-- +---------------+---------------+-------------------------------+
-- |   hop limit   |     flags     |   router lifetime, seconds    |
-- +---------------+---------------+-------------------------------+
-- |                 reachable time, milliseconds                  |
-- +---------------------------------------------------------------+
-- |                  retransmit time, milliseconds                |
-- +---------------------------------------------------------------+
--
-- Of neighbor solicitations and advertisements, and of redirects:
-- +---------------+-----------------------------------------------+
-- |     flags     |                   reserved                    |
-- +---------------+-----------------------------------------------+
-- |                    target address, 16 bytes                   |
-- +---------------------------------------------------------------+
-- |        destination address of a redirect, 16 bytes            |
-- +---------------------------------------------------------------+
use Rattle.icmp6_wire.specs.Words.{Field, field}

abbrev pub hop_limit_field : Field
hop_limit_field = field 4 5

abbrev pub router_flags_field : Field
router_flags_field = field 5 6

abbrev pub router_lifetime_field : Field
router_lifetime_field = field 6 8

abbrev pub reachable_time_field : Field
reachable_time_field = field 8 12

abbrev pub retrans_time_field : Field
retrans_time_field = field 12 16

abbrev pub neighbor_flags_field : Field
neighbor_flags_field = field 4 5

abbrev pub target_addr_field : Field
target_addr_field = field 8 24

abbrev pub dest_addr_field : Field
dest_addr_field = field 24 40
