-- The texts of messages of neighbor discovery, and their lengths.
use Rattle.std.proofs.Common.{◌≡◌, ℕ, ◌+◌, ◌-◌, ◌*◌, ◌≤◌, List, [], ◌∷◌, ◌++◌, length, refl, ap, arith, length-append}
use Rattle.std.specs.Prelude.{Option, None, Some}
use Rattle.std.specs.List.{AllByRecursion}
use Rattle.std.proofs.lemmas.List.{length-replicate}
use Rattle.icmp6_wire.specs.Words.{Sheet, put, put_all, be8, be16, be32, fields, header_text, octets_of, OptionValue}
use Rattle.icmp6_wire.specs.Words.{units, padding, Ipv6Repr, PrefixInformation}
use Rattle.wirebase.proofs.Chains.{put-fields}
use Rattle.wirebase.proofs.Ipv6Header.{length-header_text}
use Rattle.opt_wire.proofs.NdiscOptionTexts.{prefix_text, redirected_text, mtu_text, length-link}
use Rattle.icmp6_wire.specs.Ndisc.{NdiscValue, router_solicit, router_advert, neighbor_solicit, neighbor_advert}
use Rattle.icmp6_wire.specs.Ndisc.{redirect}
use Rattle.icmp6_wire.specs.Ndisc.{sources, targets, mtus, prefixes, packets, option_text, option_texts, option_len}
use Rattle.icmp6_wire.specs.Ndisc.{option_lens}
use Rattle.icmp6_wire.specs.Ndisc.{header_fields, header_len, text, text_len, options_of}

-- ---- options

length-source : (l : Option (List ℕ)) → length (option_text (sources l)) ≡ option_len (sources l)
length-source None = refl
length-source (Some address) = length-link 1 address

length-target : (l : Option (List ℕ)) → length (option_text (targets l)) ≡ option_len (targets l)
length-target None = refl
length-target (Some address) = length-link 2 address

length-mtu : (m : Option ℕ) → length (option_text (mtus m)) ≡ option_len (mtus m)
length-mtu None = refl
length-mtu (Some n) = omega (arith, ap length (mtu_text n))

length-prefix : (p : Option PrefixInformation) → length (option_text (prefixes p)) ≡ option_len (prefixes p)
length-prefix None = refl
length-prefix (Some p) = omega (arith, ap length (prefix_text p), p.prefix.whole)

length-packet : (r : Option (Ipv6Repr × List ℕ)) → length (option_text (packets r)) ≡ option_len (packets r)
length-packet None = refl
length-packet (Some r) =
    omega (
      arith,
      ap length (redirected_text r.0 r.1),
      length-append (header_text r.0) (r.1 ++ padding (48 + length r.1)),
      length-header_text r.0,
      length-append r.1 (padding (48 + length r.1)),
      length-replicate {A = ℕ} (8 * units (48 + length r.1) - (48 + length r.1)) 0,
    )

-- ---- messages

length-header : (v : NdiscValue) (behind : List (List ℕ))
    → length (fields (header_fields v behind)) ≡ header_len v + length (fields behind)
unfolding fields be8 be16 be32
length-header (router_solicit l) behind = omega arith
length-header (router_advert a) behind = omega arith
length-header (neighbor_solicit t l) behind = omega (arith, length-append (octets_of t) (fields behind), t.whole)
length-header (neighbor_advert flags t l) behind = omega (arith, length-append (octets_of t) (fields behind), t.whole)
length-header (redirect t d l r) behind =
    omega (
      arith,
      length-append (octets_of t) (octets_of d ++ fields behind),
      length-append (octets_of d) (fields behind),
      t.whole,
      d.whole,
    )

abbrev AreCounted : List (Option OptionValue) → Type 0
AreCounted os = AllByRecursion (λ o. length (option_text o) ≡ option_len o) os

length-options : (os : List (Option OptionValue)) → AreCounted os → length (fields (option_texts os)) ≡ option_lens os
unfolding fields
length-options [] h = refl
length-options (o ∷ os) h =
    omega (arith, length-append (option_text o) (fields (option_texts os)), h.0, length-options os h.1)

are_counted : (v : NdiscValue) → AreCounted (options_of v)
are_counted (router_solicit l) = (length-source l, tt)
are_counted (router_advert a) =
    (length-source a.lladdr, (length-mtu a.mtu, (length-prefix a.prefix_info, tt)))
are_counted (neighbor_solicit t l) = (length-source l, tt)
are_counted (neighbor_advert flags t l) = (length-target l, tt)
are_counted (redirect t d l r) = (length-target l, (length-packet r, tt))

pub length-text : (v : NdiscValue) → length (text v) ≡ text_len v
length-text v =
    omega (
      arith,
      length-header v (option_texts (options_of v)),
      length-options (options_of v) (are_counted v),
    )

-- what is written after a header
pub put_all-header : (v : NdiscValue) (behind : List (List ℕ)) (s : Sheet)
    → put_all s (header_fields v behind) ≡ put_all (put_all s (header_fields v [])) behind
put_all-header (router_solicit l) behind s = refl
put_all-header _ behind s = refl

pub ruleset behind_header = (put_all-header)

pub text_some : (v : NdiscValue) → 8 ≤ text_len v
text_some v = grind arith

pub ruleset texts = (length-text)

-- ---- options that are written

-- nothing is written where there is no option
pub put-nothing : (s : Sheet) → put s [] ≡ s
unfolding fields
put-nothing s = put-fields s []

pub ruleset nothing = (put-nothing)
