-- The names of the protocols over IP: the keywords of IANA's registry "Assigned Internet Protocol Numbers", in lower
-- case with underscores.
use Rattle.std.specs.Prelude.{[], ◌∷◌, codes}
use Rattle.icmp_fields.specs.Names.{Rows}

abbrev pub protocol_names : Rows
protocol_names =
    (0, codes "hopopt") ∷ (1, codes "icmp") ∷ (2, codes "igmp") ∷ (4, codes "ipv4") ∷ (6, codes "tcp")
    ∷ (17, codes "udp") ∷ (41, codes "ipv6") ∷ (43, codes "ipv6_route") ∷ (44, codes "ipv6_frag")
    ∷ (46, codes "rsvp") ∷ (47, codes "gre") ∷ (50, codes "esp") ∷ (51, codes "ah") ∷ (58, codes "ipv6_icmp")
    ∷ (59, codes "ipv6_nonxt") ∷ (60, codes "ipv6_opts") ∷ (88, codes "eigrp") ∷ (89, codes "ospfigp")
    ∷ (103, codes "pim") ∷ (112, codes "vrrp") ∷ (115, codes "l2tp") ∷ (132, codes "sctp") ∷ []
