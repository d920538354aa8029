-- What a DHCP packet prints: its fields in turn.
use Rattle.std.specs.Prelude.{[], ◌∷◌, ◌++◌, List, ℕ, codes, decimal, flat_map}
use Rattle.listing.specs.Words.{address_text, octets_text, truth_text}
use Rattle.wirebase.specs.Ethernet.{Ethernet, octets_of}
use Rattle.wirebase.specs.declared.ipv4.Ipv4Address.{Ipv4Address}
use Rattle.dhcp_wire.specs.Dhcpv4.{Value, IsPacket}
use Rattle.dhcp_wire.specs.Dhcpv4Tables.{message_number}
use Rattle.listing.specs.Layout.{field, text_or_none, IsListingOrRefused}

-- an address of hardware: its octets
abbrev pub hardware_text : Ethernet → List ℕ
hardware_text address = octets_text (octets_of address)

-- addresses with commas between them, or `-` for none
abbrev pub addresses_text : List Ipv4Address → List ℕ
addresses_text [] = codes "-"
addresses_text (first ∷ rest) = address_text first ++ flat_map (λ next. codes "," ++ address_text next) rest

-- whose packet it is
abbrev pub sender_listing : Value → List ℕ
sender_listing v =
    field (codes "message_type") (decimal (message_number v.message_type))
    ++ field (codes "transaction_id") (decimal v.transaction_id)
    ++ field (codes "secs") (decimal v.secs)
    ++ field (codes "client_hardware_address") (hardware_text v.client_hardware_address)

-- its addresses
abbrev pub addresses_listing : Value → List ℕ
addresses_listing v =
    field (codes "client_ip") (address_text v.client_ip)
    ++ field (codes "your_ip") (address_text v.your_ip)
    ++ field (codes "server_ip") (address_text v.server_ip)
    ++ field (codes "router") (text_or_none address_text v.router)
    ++ field (codes "subnet_mask") (text_or_none address_text v.subnet_mask)
    ++ field (codes "relay_agent_ip") (address_text v.relay_agent_ip)

-- what is asked, and of whom
abbrev pub request_listing : Value → List ℕ
request_listing v =
    field (codes "broadcast") (truth_text v.broadcast)
    ++ field (codes "requested_ip") (text_or_none address_text v.requested_ip)
    ++ field (codes "client_identifier") (text_or_none hardware_text v.client_identifier)
    ++ field (codes "server_identifier") (text_or_none address_text v.server_identifier)
    ++ field (codes "parameter_request_list") (text_or_none octets_text v.parameter_request_list)
    ++ field (codes "dns_servers") (text_or_none addresses_text v.dns_servers)

-- its limits; times are in seconds
abbrev pub limits_listing : Value → List ℕ
limits_listing v =
    field (codes "max_size") (text_or_none decimal v.max_size)
    ++ field (codes "lease_duration") (text_or_none decimal v.lease_duration)
    ++ field (codes "renew_duration") (text_or_none decimal v.renew_duration)
    ++ field (codes "rebind_duration") (text_or_none decimal v.rebind_duration)

abbrev pub dhcp_listing : Value → List ℕ
dhcp_listing v = sender_listing v ++ addresses_listing v ++ request_listing v ++ limits_listing v

abbrev pub DhcpPrints : List ℕ → List ℕ → Type 0
DhcpPrints octets = IsListingOrRefused (IsPacket octets) dhcp_listing
