-- The printed texts of messages of neighbor discovery.
use Rattle.std.specs.Prelude.{ℕ, List, [], ◌∷◌, codes, decimal, Option, None, Some}
use Rattle.icmp6_wire.specs.Words.{pieces, duration_text, hex_colons, header_display, address_text, Duration, Ipv6Repr}
use Rattle.icmp6_wire.specs.Words.{octets_text, flag_bits, flags_text, PrefixInformation}
use Rattle.icmp6_wire.specs.Ndisc.{NdiscValue, router_solicit, router_advert, neighbor_solicit, neighbor_advert}
use Rattle.icmp6_wire.specs.Ndisc.{redirect}
use Rattle.icmp6_wire.specs.NdiscTables.{router_bits, neighbor_bits, router_flags_text, neighbor_flags_text}
use Rattle.icmp6_wire.specs.declared.ndisc.refusal.Refusal.{Refusal}

-- the printed text of an optional field: nothing where it is absent
unfoldable pub lladdr_display : Option (List ℕ) → List ℕ
lladdr_display None = []
lladdr_display (Some address) = pieces (codes " lladdr=" ∷ hex_colons address ∷ [])

unfoldable pub mtu_display : Option ℕ → List ℕ
mtu_display None = []
mtu_display (Some n) = pieces (codes " mtu=" ∷ decimal n ∷ [])

unfoldable pub prefix_display : Option PrefixInformation → List ℕ
prefix_display None = []
prefix_display (Some p) =
    pieces (codes " prefix_info=(prefix=" ∷ address_text p.prefix
    ∷ codes "/" ∷ decimal p.prefix_len
    ∷ codes " flags=" ∷ flags_text (flag_bits p.flags)
    ∷ codes " valid_lifetime=" ∷ duration_text p.valid_lifetime
    ∷ codes " preferred_lifetime=" ∷ duration_text p.preferred_lifetime
    ∷ codes ")" ∷ [])

-- a redirected packet by its header, the bytes that it counts, and its payload in hexadecimal
unfoldable pub packet_display : Option (Ipv6Repr × List ℕ) → List ℕ
packet_display None = []
packet_display (Some r) =
    pieces (codes " redirected_hdr=(" ∷ header_display r.0
    ∷ codes " payload_len=" ∷ decimal r.0.payload_len
    ∷ codes " data=" ∷ octets_text r.1
    ∷ codes ")" ∷ [])

-- the times of a router advertisement, and its options
unfoldable pub times_display : Duration → Duration → Duration → List ℕ
times_display lifetime reachable retrans =
    pieces (codes " router_lifetime=" ∷ duration_text lifetime
    ∷ codes " reachable_time=" ∷ duration_text reachable
    ∷ codes " retrans_time=" ∷ duration_text retrans ∷ [])

unfoldable pub options_display : Option (List ℕ) → Option ℕ → Option PrefixInformation → List ℕ
options_display l m p = pieces (lladdr_display l ∷ mtu_display m ∷ prefix_display p ∷ [])

-- a message: its fields, flags by their names
abbrev pub repr_display : NdiscValue → List ℕ
repr_display (router_solicit l) = pieces (codes "NDISC router solicitation" ∷ lladdr_display l ∷ [])
repr_display (router_advert a) =
    pieces (codes "NDISC router advertisement hop_limit=" ∷ decimal a.hop_limit
    ∷ codes " flags=" ∷ router_flags_text (router_bits a.flags)
    ∷ times_display a.router_lifetime a.reachable_time a.retrans_time
    ∷ options_display a.lladdr a.mtu a.prefix_info ∷ [])
repr_display (neighbor_solicit t l) =
    pieces (codes "NDISC neighbor solicitation target_addr=" ∷ address_text t ∷ lladdr_display l ∷ [])
repr_display (neighbor_advert flags t l) =
    pieces (codes "NDISC neighbor advertisement flags=" ∷ neighbor_flags_text (neighbor_bits flags)
    ∷ codes " target_addr=" ∷ address_text t ∷ lladdr_display l ∷ [])
repr_display (redirect t d l r) =
    pieces (codes "NDISC redirect target_addr=" ∷ address_text t ∷ codes " dest_addr=" ∷ address_text d
    ∷ lladdr_display l ∷ packet_display r ∷ [])

-- why octets are refused
abbrev pub refusal_display : Refusal → List ℕ
refusal_display Refusal.Short = codes "fewer than 8 bytes"
refusal_display (Refusal.UnknownType t) = pieces (codes "type " ∷ decimal t ∷ codes " is not read" ∷ [])
refusal_display Refusal.Length = codes "fewer bytes than the header of its type"
refusal_display (Refusal.OptionCut kind place) =
    pieces (codes "the option of type " ∷ decimal kind ∷ codes " at byte " ∷ decimal place ∷ codes " is cut" ∷ [])
refusal_display (Refusal.OptionEmpty kind place) =
    pieces (codes "the option of type " ∷ decimal kind ∷ codes " at byte " ∷ decimal place
    ∷ codes " has length 0" ∷ [])
refusal_display (Refusal.OptionLength kind units place) =
    pieces (codes "the option of type " ∷ decimal kind ∷ codes " at byte " ∷ decimal place
    ∷ codes " has length " ∷ decimal units ∷ codes ", too short for its type" ∷ [])
