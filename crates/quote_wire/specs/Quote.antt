-- What an error quotes of a datagram: the fields of its header, and all that follows it, whatever its own length says:
-- as much of its payload as is quoted, and extensions where there are any (RFC 4884 section 7). The headers are those
-- of IPv4 (RFC 791 section 3.1) and of IPv6 (RFC 8200 section 3).
use Rattle.std.specs.Prelude.{◌≡◌, ◌≢◌, ◌↔◌, ℕ, ◌+◌, ◌/◌, ◌%◌, ◌^◌, ◌<◌, ◌≤◌, ◌⊎◌, List, [], ◌∷◌, ◌++◌, length, drop}
use Rattle.std.specs.Prelude.{IsTrue, slice_index, codes, decimal}
use Rattle.wirebase.specs.Bytes.{Field, field, bytes_of, byte_of, number_of}
use Rattle.wirebase.specs.Display.{pieces, truth_text}
use Rattle.wirebase.specs.Ip.{protocol_number, protocol_of}
use Rattle.wirebase.specs.Ipv4 as ipv4
use Rattle.wirebase.specs.Ipv6 as ipv6
use Rattle.wirebase.specs.Ipv6Address.{octets_of, address_text}
use Rattle.quote_wire.specs.declared.quote.Ipv4Quote.{Ipv4Quote}
use Rattle.quote_wire.specs.declared.quote.Ipv6Quote.{Ipv6Quote}
use Rattle.quote_wire.specs.declared.quote.refusal.Refusal.{Refusal}

-- the type of service of an IPv4 header, and its options, which are between its fixed fields and its payload
abbrev pub type_of_service_field : Field
type_of_service_field = field 1 2

abbrev pub options_field : List ℕ → Field
options_field bytes = field 20 (ipv4.header_len_in bytes)

pub record IsIpv4Quote (bytes : List ℕ) (q : Ipv4Quote) : Type 0 where
  pub service : q.type_of_service ≡ byte_of type_of_service_field bytes
  pub total : q.total_len ≡ ipv4.total_len_in bytes
  pub identification : q.ident ≡ number_of ipv4.ident_field bytes
  pub whole : IsTrue q.dont_frag ↔ (ipv4.dont_frag_in bytes ≡ 1)
  pub more : IsTrue q.more_frags ↔ (ipv4.more_frags_in bytes ≡ 1)
  pub offset : q.frag_offset ≡ ipv4.frag_offset_in bytes
  pub hops : q.hop_limit ≡ byte_of ipv4.time_to_live_field bytes
  pub protocol : q.next_header ≡ protocol_of (byte_of ipv4.protocol_field bytes)
  pub source : ipv4.octets_of q.src_addr ≡ bytes_of ipv4.src_addr_field bytes
  pub destination : ipv4.octets_of q.dst_addr ≡ bytes_of ipv4.dst_addr_field bytes
  pub options : q.options.now ≡ bytes_of (options_field bytes) bytes
  pub payload : q.payload.now ≡ drop (ipv4.header_len_in bytes) bytes

-- the first word of an IPv6 header: the version, the traffic class and the flow label
abbrev pub first_word_field : Field
first_word_field = field 0 4

pub record IsIpv6Quote (bytes : List ℕ) (q : Ipv6Quote) : Type 0 where
  pub class : q.traffic_class ≡ number_of first_word_field bytes / 2 ^ 20 % 2 ^ 8
  pub flow : q.flow_label ≡ number_of first_word_field bytes % 2 ^ 20
  pub length_is : q.payload_len ≡ ipv6.payload_len_in bytes
  pub protocol : q.next_header ≡ protocol_of (byte_of ipv6.next_header_field bytes)
  pub hops : q.hop_limit ≡ byte_of ipv6.hop_limit_field bytes
  pub source : octets_of q.src_addr ≡ bytes_of ipv6.src_addr_field bytes
  pub destination : octets_of q.dst_addr ≡ bytes_of ipv6.dst_addr_field bytes
  pub payload : q.payload.now ≡ drop 40 bytes

-- what they print: the fields in the order of the header, and of what is lent the bytes
abbrev pub ipv4_front_display : Ipv4Quote → List ℕ
ipv4_front_display q =
    pieces (codes "IPv4 quote type_of_service=" ∷ decimal q.type_of_service
    ∷ codes " total_len=" ∷ decimal q.total_len
    ∷ codes " ident=" ∷ decimal q.ident
    ∷ codes " dont_frag=" ∷ truth_text q.dont_frag
    ∷ codes " more_frags=" ∷ truth_text q.more_frags
    ∷ codes " frag_offset=" ∷ decimal q.frag_offset ∷ [])

abbrev pub ipv4_back_display : Ipv4Quote → List ℕ
ipv4_back_display q =
    pieces (codes " hop_limit=" ∷ decimal q.hop_limit
    ∷ codes " next_header=" ∷ decimal (protocol_number q.next_header)
    ∷ codes " src_addr=" ∷ ipv4.address_text q.src_addr
    ∷ codes " dst_addr=" ∷ ipv4.address_text q.dst_addr
    ∷ codes " options=" ∷ decimal (length q.options.now)
    ∷ codes " payload=" ∷ decimal (length q.payload.now) ∷ [])

abbrev pub ipv4_quote_display : Ipv4Quote → List ℕ
ipv4_quote_display q = ipv4_front_display q ++ ipv4_back_display q

abbrev pub ipv6_quote_display : Ipv6Quote → List ℕ
ipv6_quote_display q =
    pieces (codes "IPv6 quote traffic_class=" ∷ decimal q.traffic_class
    ∷ codes " flow_label=" ∷ decimal q.flow_label
    ∷ codes " payload_len=" ∷ decimal q.payload_len
    ∷ codes " next_header=" ∷ decimal (protocol_number q.next_header)
    ∷ codes " hop_limit=" ∷ decimal q.hop_limit
    ∷ codes " src_addr=" ∷ address_text q.src_addr
    ∷ codes " dst_addr=" ∷ address_text q.dst_addr
    ∷ codes " payload=" ∷ decimal (length q.payload.now) ∷ [])

-- ---- why octets hold no quote, by the check that fails first: each row says that the checks before its own hold

-- the fixed fields of an IPv4 header, of version 4 and 20 bytes or more by its own length
pub record HasFixed4 (bytes : List ℕ) : Type 0 where
  pub fixed : 20 ≤ length bytes
  pub version : ipv4.version_in bytes ≡ 4
  pub least : 20 ≤ ipv4.header_len_in bytes

abbrev pub RefusesIpv4 : List ℕ → Refusal → Type 0
RefusesIpv4 bytes Refusal.Short = (length bytes < 20) ⊎ (HasFixed4 bytes × (length bytes < ipv4.header_len_in bytes))
RefusesIpv4 bytes (Refusal.Version n) = (20 ≤ length bytes) × (n ≡ ipv4.version_in bytes) × (n ≢ 4)
RefusesIpv4 bytes (Refusal.Length n) =
    (20 ≤ length bytes) × (ipv4.version_in bytes ≡ 4) × (n ≡ ipv4.header_len_in bytes) × (n < 20)
RefusesIpv4 bytes Refusal.Data =
    HasFixed4 bytes × (ipv4.header_len_in bytes ≤ length bytes) × (length bytes < ipv4.header_len_in bytes + 8)

abbrev pub RefusesIpv6 : List ℕ → Refusal → Type 0
RefusesIpv6 bytes Refusal.Short = length bytes < 40
RefusesIpv6 bytes (Refusal.Version n) = (40 ≤ length bytes) × (n ≡ slice_index bytes 0 / 16) × (n ≢ 6)
RefusesIpv6 bytes _ = ⊥

-- what a reason prints
abbrev pub refusal_display : Refusal → List ℕ
refusal_display Refusal.Short = codes "the quoted header is cut"
refusal_display (Refusal.Version n) = pieces (codes "the quoted header is of version " ∷ decimal n ∷ [])
refusal_display (Refusal.Length n) =
    pieces (codes "the quoted header has " ∷ decimal n ∷ codes " bytes by its own length" ∷ [])
refusal_display Refusal.Data = codes "fewer than 8 bytes stand behind the quoted header"
