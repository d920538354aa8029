-- Messages of neighbor discovery (RFC 4861 sections 4.1 to 4.5).
use Rattle.std.specs.Prelude.{◌≡◌, ℕ, ◌+◌, ◌*◌, ◌<◌, ◌≤◌, List, [], ◌∷◌, length, Option, None, Some}
use Rattle.std.specs.Option.{option_map}
use Rattle.icmp6_wire.specs.Words.{byte_of, bytes_of, number_of, over, be8, be16, be32, fields, micros_of, millis_of}
use Rattle.icmp6_wire.specs.Words.{seconds_of, whole_millis, whole_seconds, Format, RoundTrips, type_field, octets_of}
use Rattle.icmp6_wire.specs.Words.{OptionValue, source, target, prefix_information, redirected, mtu, filled, last_of}
use Rattle.icmp6_wire.specs.Words.{Duration, Check, Passes}
use Rattle.icmp6_wire.specs.Words.{Ipv6Address, Ipv6Repr, PrefixInformation, NeighborFlags, RouterFlags, Message}
use Rattle.opt_wire.specs.NdiscOptionRepr as option
use Rattle.icmp6_wire.specs.Icmpv6Packet.{header_checks, payload_in}
use Rattle.icmp6_wire.specs.NdiscBlocks.{AreBlocks, source_in, target_in, mtu_in, prefix_in, redirected_in}
use Rattle.icmp6_wire.specs.NdiscOptionsSeen.{packet_of, link_of}
use Rattle.icmp6_wire.specs.NdiscPacket.{hop_limit_field, router_flags_field, router_lifetime_field}
use Rattle.icmp6_wire.specs.NdiscPacket.{reachable_time_field, retrans_time_field, neighbor_flags_field}
use Rattle.icmp6_wire.specs.NdiscPacket.{target_addr_field, dest_addr_field}
use Rattle.icmp6_wire.specs.Icmpv6Tables.{message_number, is_ndisc}
use Rattle.icmp6_wire.specs.NdiscTables.{router_bits, neighbor_bits, known_router, known_neighbor}
use Rattle.icmp6_wire.specs.declared.ndisc.refusal.Refusal.{Refusal}
use Rattle.icmp6_wire.specs.declared.ndisc.repr.Repr.{Repr}

-- A message by its content: a solicitation of routers with its sender's link-layer address; a router's advertisement
-- with its hop limit, flags and three times, its link-layer address, an MTU and a prefix; a solicitation of the
-- neighbor that has an address, with its sender's link-layer address; a neighbor's advertisement of an address and its
-- link-layer address; or a redirect to a target, for a destination, with the target's link-layer address and the packet
-- that is redirected, by its header and its payload.
pub record RouterAdvert : Type 0 where
  pub hop_limit : ℕ
  pub flags : RouterFlags
  pub router_lifetime : Duration
  pub reachable_time : Duration
  pub retrans_time : Duration
  pub lladdr : Option (List ℕ)
  pub mtu : Option ℕ
  pub prefix_info : Option PrefixInformation

pub data NdiscValue : Type 0 where
  router_solicit : Option (List ℕ) → NdiscValue
  router_advert : RouterAdvert → NdiscValue
  neighbor_solicit : Ipv6Address → Option (List ℕ) → NdiscValue
  neighbor_advert : NeighborFlags → Ipv6Address → Option (List ℕ) → NdiscValue
  redirect : Ipv6Address → Ipv6Address → Option (List ℕ) → Option (Ipv6Repr × List ℕ) → NdiscValue

abbrev pub value_of : Repr → NdiscValue
value_of (Repr.RouterSolicit l) = router_solicit (link_of l)
value_of (Repr.RouterAdvert hops flags lifetime reachable retrans l m p) =
    router_advert (record {
      hop_limit = hops;
      flags = flags;
      router_lifetime = lifetime;
      reachable_time = reachable;
      retrans_time = retrans;
      lladdr = link_of l;
      mtu = m;
      prefix_info = p;
    })
value_of (Repr.NeighborSolicit t l) = neighbor_solicit t (link_of l)
value_of (Repr.NeighborAdvert flags t l) = neighbor_advert flags t (link_of l)
value_of (Repr.Redirect t d l r) = redirect t d (link_of l) (option_map packet_of r)

-- ---- the text

-- the options that a field is written as, where it has a value
abbrev pub sources : Option (List ℕ) → Option OptionValue
sources l = option_map source l

abbrev pub targets : Option (List ℕ) → Option OptionValue
targets l = option_map target l

abbrev pub mtus : Option ℕ → Option OptionValue
mtus m = option_map mtu m

abbrev pub prefixes : Option PrefixInformation → Option OptionValue
prefixes p = option_map prefix_information p

abbrev pub packets : Option (Ipv6Repr × List ℕ) → Option OptionValue
packets r = option_map (λ packet. redirected packet.0 packet.1) r

-- the options of a message, in the order in which they are written
abbrev pub options_of : NdiscValue → List (Option OptionValue)
options_of (router_solicit l) = sources l ∷ []
options_of (router_advert a) = sources a.lladdr ∷ mtus a.mtu ∷ prefixes a.prefix_info ∷ []
options_of (neighbor_solicit t l) = sources l ∷ []
options_of (neighbor_advert flags t l) = targets l ∷ []
options_of (redirect t d l r) = targets l ∷ packets r ∷ []

-- the text of each, nothing where there is none, and its bytes
abbrev pub option_text : Option OptionValue → List ℕ
option_text None = []
option_text (Some v) = option.text v

abbrev pub option_texts : List (Option OptionValue) → List (List ℕ)
option_texts [] = []
option_texts (o ∷ os) = option_text o ∷ option_texts os

abbrev pub option_len : Option OptionValue → ℕ
option_len None = 0
option_len (Some v) = option.text_len v

abbrev pub option_lens : List (Option OptionValue) → ℕ
option_lens [] = 0
option_lens (o ∷ os) = option_len o + option_lens os

-- the fields, with the checksum zero, and the options after them
abbrev pub header_fields : NdiscValue → List (List ℕ) → List (List ℕ)
header_fields (router_solicit l) behind = be8 (message_number Message.RouterSolicit) ∷ be8 0 ∷ be16 0 ∷ be32 0 ∷ behind
header_fields (router_advert a) behind =
    be8 (message_number Message.RouterAdvert) ∷ be8 0 ∷ be16 0
    ∷ be8 a.hop_limit ∷ be8 (router_bits a.flags) ∷ be16 (seconds_of a.router_lifetime)
    ∷ be32 (millis_of a.reachable_time)
    ∷ be32 (millis_of a.retrans_time)
    ∷ behind
header_fields (neighbor_solicit t l) behind =
    be8 (message_number Message.NeighborSolicit) ∷ be8 0 ∷ be16 0 ∷ be32 0 ∷ octets_of t ∷ behind
header_fields (neighbor_advert flags t l) behind =
    be8 (message_number Message.NeighborAdvert) ∷ be8 0 ∷ be16 0
    ∷ be8 (neighbor_bits flags) ∷ be8 0 ∷ be16 0 ∷ octets_of t ∷ behind
header_fields (redirect t d l r) behind =
    be8 (message_number Message.Redirect) ∷ be8 0 ∷ be16 0 ∷ be32 0 ∷ octets_of t ∷ octets_of d ∷ behind

abbrev pub message_fields : NdiscValue → List (List ℕ)
message_fields v = header_fields v (option_texts (options_of v))

abbrev pub text : NdiscValue → List ℕ
text v = fields (message_fields v)

-- the bytes that it takes
abbrev pub header_len : NdiscValue → ℕ
header_len (router_solicit l) = 8
header_len (router_advert a) = 16
header_len (neighbor_solicit t l) = 24
header_len (neighbor_advert flags t l) = 24
header_len (redirect t d l r) = 40

abbrev pub text_len : NdiscValue → ℕ
text_len v = header_len v + option_lens (options_of v)

-- a fact on each option that is there
abbrev pub IfThere : (OptionValue → Type 0) → Option OptionValue → Type 0
IfThere P None = Unit {0}
IfThere P (Some v) = P v

abbrev pub Each : (OptionValue → Type 0) → List (Option OptionValue) → Type 0
Each P [] = Unit {0}
Each P (o ∷ os) = IfThere P o × Each P os

-- times whose whole seconds or milliseconds fit their fields
abbrev pub HaveTimes : NdiscValue → Type 0
HaveTimes (router_advert a) =
    (seconds_of a.router_lifetime ≤ 65535) × (millis_of a.reachable_time ≤ 4294967295)
    × (millis_of a.retrans_time ≤ 4294967295)
HaveTimes v = Unit {0}

-- the requirements on a value that is written: times that fit, and options that can be written
abbrev pub CanEmit : NdiscValue → Type 0
CanEmit v = HaveTimes v × Each option.CanEmit (options_of v)

-- ---- the grammar

-- The checks of the header, in their order: there are the 8 bytes of every header; the type is one of neighbor
-- discovery; and there are the bytes of the header of that type. The checks of the options follow.
abbrev pub checks : List ℕ → List (Check Refusal)
checks = header_checks is_ndisc Refusal.Short Refusal.UnknownType Refusal.Length

pub record IsRouterAdvert (bytes : List ℕ) (options : List OptionValue) (a : RouterAdvert) : Type 0 where
  pub kind : byte_of type_field bytes ≡ message_number Message.RouterAdvert
  pub hop_limit : a.hop_limit ≡ byte_of hop_limit_field bytes
  pub flags : router_bits a.flags ≡ known_router (byte_of router_flags_field bytes)
  pub router_lifetime : micros_of a.router_lifetime ≡ 1000000 * number_of router_lifetime_field bytes
  pub reachable_time : micros_of a.reachable_time ≡ 1000 * number_of reachable_time_field bytes
  pub retrans_time : micros_of a.retrans_time ≡ 1000 * number_of retrans_time_field bytes
  pub lladdr : a.lladdr ≡ last_of source_in options
  pub mtu : a.mtu ≡ last_of mtu_in options
  pub prefix_info : a.prefix_info ≡ last_of prefix_in options

-- the message of these fixed fields, whose other fields are given by the last option of their kind
abbrev pub IsContent : List ℕ → List OptionValue → NdiscValue → Type 0
IsContent bytes options (router_solicit l) =
    (byte_of type_field bytes ≡ message_number Message.RouterSolicit) × (l ≡ last_of source_in options)
IsContent bytes options (router_advert a) = IsRouterAdvert bytes options a
IsContent bytes options (neighbor_solicit t l) =
    (byte_of type_field bytes ≡ message_number Message.NeighborSolicit)
    × (octets_of t ≡ bytes_of target_addr_field bytes)
    × (l ≡ last_of source_in options)
IsContent bytes options (neighbor_advert flags t l) =
    (byte_of type_field bytes ≡ message_number Message.NeighborAdvert)
    × (neighbor_bits flags ≡ known_neighbor (byte_of neighbor_flags_field bytes))
    × (octets_of t ≡ bytes_of target_addr_field bytes)
    × (l ≡ last_of target_in options)
IsContent bytes options (redirect t d l r) =
    (byte_of type_field bytes ≡ message_number Message.Redirect) × (octets_of t ≡ bytes_of target_addr_field bytes)
    × (octets_of d ≡ bytes_of dest_addr_field bytes)
    × (l ≡ last_of target_in options)
    × (r ≡ last_of redirected_in options)

-- The grammar: the bytes pass the checks, what follows the header is blocks, and the message is this one. Code and
-- checksum are not checked.
pub record IsMessage (bytes : List ℕ) (v : NdiscValue) : Type 0 where
  pub options : List OptionValue
  pub passes : Passes (checks bytes)
  pub tiling : AreBlocks (payload_in bytes) options
  pub content : IsContent bytes options v

-- ---- canonical values and the normal form

abbrev pub IsCanonicalHeader : NdiscValue → Type 0
IsCanonicalHeader (router_advert a) =
    (a.hop_limit < 256) × (known_router (router_bits a.flags) ≡ router_bits a.flags) × HaveTimes (router_advert a)
IsCanonicalHeader (neighbor_advert flags t l) = known_neighbor (neighbor_bits flags) ≡ neighbor_bits flags
IsCanonicalHeader v = Unit {0}

abbrev pub IsCanonical : NdiscValue → Type 0
IsCanonical v = IsCanonicalHeader v × Each option.IsCanonical (options_of v)

-- its times in whole seconds
abbrev pub whole_prefix : PrefixInformation → PrefixInformation
whole_prefix p =
    record p {
      valid_lifetime = whole_seconds p.valid_lifetime;
      preferred_lifetime = whole_seconds p.preferred_lifetime;
    }

-- the normal form: times in whole units, and each option in its own normal form
abbrev pub norm : NdiscValue → NdiscValue
norm (router_solicit l) = router_solicit (option_map filled l)
norm (router_advert a) =
    router_advert (record a {
      router_lifetime = whole_seconds a.router_lifetime;
      reachable_time = whole_millis a.reachable_time;
      retrans_time = whole_millis a.retrans_time;
      lladdr = option_map filled a.lladdr;
      prefix_info = option_map whole_prefix a.prefix_info;
    })
norm (neighbor_solicit t l) = neighbor_solicit t (option_map filled l)
norm (neighbor_advert flags t l) = neighbor_advert flags t (option_map filled l)
norm (redirect t d l r) = redirect t d (option_map filled l) r

-- the format; no value is an exception, and what is read is its own normal form
abbrev pub format : Format NdiscValue
format = record {
  Reads = IsMessage;
  Fills = Unit {0};
  text = text;
  IsCanonical = IsCanonical;
  IsException = λ v. ⊥;
  norm = norm;
  IsCut = λ v. ⊥;
}

-- What writing a message over `old` leaves: its text over the front. Where `old` has exactly its length, its text is
-- all that is left, and a canonical value is read back from it as its normal form.
pub record Emits (v : NdiscValue) (old new : List ℕ) : Type 0 where
  pub written : new ≡ over old (text v)
  pub exact : length old ≡ text_len v → new ≡ text v
  pub reads_back : length old ≡ text_len v → IsCanonical v → IsMessage new (norm v)
  pub round_trips : RoundTrips format v
