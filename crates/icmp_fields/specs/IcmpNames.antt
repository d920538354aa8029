-- The names of the types and codes of ICMP messages, by IANA's registries "ICMP Type Numbers" and "ICMPv6 Type
-- Numbers", in lower case with underscores.
use Rattle.std.specs.Prelude.{ℕ, ◌==◌, if◌then◌else◌, List, [], ◌∷◌, Option, None, codes}
use Rattle.icmp_fields.specs.Names.{Rows, name_in}

-- ---- both

-- RFC 8335 sections 2 and 3
abbrev pub extended_request_codes : Rows
extended_request_codes = (0, codes "no_error") ∷ []

abbrev pub extended_reply_codes : Rows
extended_reply_codes =
    (0, codes "no_error") ∷ (1, codes "malformed_query") ∷ (2, codes "no_such_interface")
    ∷ (3, codes "no_such_table_entry") ∷ (4, codes "multiple_interfaces_satisfy_query") ∷ []

-- ---- ICMPv4

abbrev pub icmp4_types : Rows
icmp4_types =
    (0, codes "echo_reply") ∷ (3, codes "destination_unreachable") ∷ (4, codes "source_quench") ∷ (5, codes "redirect")
    ∷ (8, codes "echo_request") ∷ (9, codes "router_advertisement") ∷ (10, codes "router_solicitation")
    ∷ (11, codes "time_exceeded") ∷ (12, codes "parameter_problem") ∷ (13, codes "timestamp")
    ∷ (14, codes "timestamp_reply") ∷ (15, codes "information_request") ∷ (16, codes "information_reply")
    ∷ (17, codes "address_mask_request") ∷ (18, codes "address_mask_reply") ∷ (30, codes "traceroute")
    ∷ (40, codes "photuris") ∷ (42, codes "extended_echo_request") ∷ (43, codes "extended_echo_reply") ∷ []

-- RFC 792, RFC 1122 section 3.2.2.1, RFC 1812 section 5.2.7.1
abbrev pub icmp4_unreachable_codes : Rows
icmp4_unreachable_codes =
    (0, codes "net_unreachable") ∷ (1, codes "host_unreachable") ∷ (2, codes "protocol_unreachable")
    ∷ (3, codes "port_unreachable") ∷ (4, codes "fragmentation_needed") ∷ (5, codes "source_route_failed")
    ∷ (6, codes "destination_network_unknown") ∷ (7, codes "destination_host_unknown")
    ∷ (8, codes "source_host_isolated") ∷ (9, codes "network_administratively_prohibited")
    ∷ (10, codes "host_administratively_prohibited") ∷ (11, codes "network_unreachable_for_type_of_service")
    ∷ (12, codes "host_unreachable_for_type_of_service") ∷ (13, codes "communication_administratively_prohibited")
    ∷ (14, codes "host_precedence_violation") ∷ (15, codes "precedence_cutoff_in_effect") ∷ []

-- RFC 792
abbrev pub icmp4_redirect_codes : Rows
icmp4_redirect_codes =
    (0, codes "network") ∷ (1, codes "host") ∷ (2, codes "type_of_service_and_network")
    ∷ (3, codes "type_of_service_and_host") ∷ []

-- RFC 5944 section 2.1
abbrev pub icmp4_advertisement_codes : Rows
icmp4_advertisement_codes = (0, codes "normal") ∷ (16, codes "no_common_traffic") ∷ []

-- RFC 792
abbrev pub icmp4_time_exceeded_codes : Rows
icmp4_time_exceeded_codes =
    (0, codes "time_to_live_exceeded_in_transit") ∷ (1, codes "fragment_reassembly_time_exceeded") ∷ []

-- RFC 792, RFC 1122 section 3.2.2.5
abbrev pub icmp4_parameter_problem_codes : Rows
icmp4_parameter_problem_codes =
    (0, codes "pointer_indicates_the_error") ∷ (1, codes "missing_a_required_option") ∷ (2, codes "bad_length") ∷ []

-- RFC 2521 section 2
abbrev pub photuris_codes : Rows
photuris_codes =
    (0, codes "bad_spi") ∷ (1, codes "authentication_failed") ∷ (2, codes "decompression_failed")
    ∷ (3, codes "decryption_failed") ∷ (4, codes "need_authentication") ∷ (5, codes "need_authorization") ∷ []

-- the name of a code of this type
abbrev pub icmp4_code_name : ℕ → ℕ → Option (List ℕ)
icmp4_code_name t code =
    if t == 3 then name_in icmp4_unreachable_codes code
    else if t == 5 then name_in icmp4_redirect_codes code
    else if t == 9 then name_in icmp4_advertisement_codes code
    else if t == 11 then name_in icmp4_time_exceeded_codes code
    else if t == 12 then name_in icmp4_parameter_problem_codes code
    else if t == 40 then name_in photuris_codes code
    else if t == 42 then name_in extended_request_codes code
    else if t == 43 then name_in extended_reply_codes code
    else None

-- ---- ICMPv6

abbrev pub icmp6_types : Rows
icmp6_types =
    (1, codes "destination_unreachable") ∷ (2, codes "packet_too_big") ∷ (3, codes "time_exceeded")
    ∷ (4, codes "parameter_problem") ∷ (128, codes "echo_request") ∷ (129, codes "echo_reply")
    ∷ (130, codes "multicast_listener_query") ∷ (131, codes "multicast_listener_report")
    ∷ (132, codes "multicast_listener_done") ∷ (133, codes "router_solicitation")
    ∷ (134, codes "router_advertisement") ∷ (135, codes "neighbor_solicitation")
    ∷ (136, codes "neighbor_advertisement") ∷ (137, codes "redirect") ∷ (138, codes "router_renumbering")
    ∷ (139, codes "node_information_query") ∷ (140, codes "node_information_response")
    ∷ (141, codes "inverse_neighbor_discovery_solicitation")
    ∷ (142, codes "inverse_neighbor_discovery_advertisement")
    ∷ (143, codes "version_2_multicast_listener_report")
    ∷ (144, codes "home_agent_address_discovery_request") ∷ (145, codes "home_agent_address_discovery_reply")
    ∷ (146, codes "mobile_prefix_solicitation") ∷ (147, codes "mobile_prefix_advertisement")
    ∷ (148, codes "certification_path_solicitation") ∷ (149, codes "certification_path_advertisement")
    ∷ (150, codes "experimental_mobility") ∷ (151, codes "multicast_router_advertisement")
    ∷ (152, codes "multicast_router_solicitation") ∷ (153, codes "multicast_router_termination")
    ∷ (154, codes "fmipv6") ∷ (155, codes "rpl_control") ∷ (156, codes "ilnpv6_locator_update")
    ∷ (157, codes "duplicate_address_request") ∷ (158, codes "duplicate_address_confirmation")
    ∷ (159, codes "mpl_control") ∷ (160, codes "extended_echo_request") ∷ (161, codes "extended_echo_reply") ∷ []

-- RFC 4443 section 3.1, RFC 6554 section 3, RFC 8883 section 3
abbrev pub icmp6_unreachable_codes : Rows
icmp6_unreachable_codes =
    (0, codes "no_route_to_destination") ∷ (1, codes "communication_administratively_prohibited")
    ∷ (2, codes "beyond_scope_of_source_address") ∷ (3, codes "address_unreachable")
    ∷ (4, codes "port_unreachable") ∷ (5, codes "source_address_failed_policy")
    ∷ (6, codes "reject_route_to_destination") ∷ (7, codes "error_in_source_routing_header")
    ∷ (8, codes "headers_too_long") ∷ []

-- RFC 4443 section 3.3
abbrev pub icmp6_time_exceeded_codes : Rows
icmp6_time_exceeded_codes =
    (0, codes "hop_limit_exceeded_in_transit") ∷ (1, codes "fragment_reassembly_time_exceeded") ∷ []

-- RFC 4443 section 3.4, RFC 7112 section 5, RFC 8986 section 4.1.1, RFC 8883 section 2
abbrev pub icmp6_parameter_problem_codes : Rows
icmp6_parameter_problem_codes =
    (0, codes "erroneous_header_field") ∷ (1, codes "unrecognized_next_header_type")
    ∷ (2, codes "unrecognized_ipv6_option") ∷ (3, codes "incomplete_ipv6_header_chain")
    ∷ (4, codes "sr_upper_layer_header_error") ∷ (5, codes "unrecognized_next_header_type_by_intermediate_node")
    ∷ (6, codes "extension_header_too_big") ∷ (7, codes "extension_header_chain_too_long")
    ∷ (8, codes "too_many_extension_headers") ∷ (9, codes "too_many_options_in_extension_header")
    ∷ (10, codes "option_too_big") ∷ []

-- RFC 4620 section 4: what the data of a query is, and how it went
abbrev pub node_query_codes : Rows
node_query_codes = (0, codes "ipv6_address") ∷ (1, codes "name") ∷ (2, codes "ipv4_address") ∷ []

abbrev pub node_response_codes : Rows
node_response_codes = (0, codes "success") ∷ (1, codes "refused") ∷ (2, codes "unknown_qtype") ∷ []

abbrev pub icmp6_code_name : ℕ → ℕ → Option (List ℕ)
icmp6_code_name t code =
    if t == 1 then name_in icmp6_unreachable_codes code
    else if t == 3 then name_in icmp6_time_exceeded_codes code
    else if t == 4 then name_in icmp6_parameter_problem_codes code
    else if t == 139 then name_in node_query_codes code
    else if t == 140 then name_in node_response_codes code
    else if t == 160 then name_in extended_request_codes code
    else if t == 161 then name_in extended_reply_codes code
    else None
