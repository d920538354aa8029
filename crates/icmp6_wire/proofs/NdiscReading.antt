-- Reading messages of neighbor discovery that were written.
use Rattle.std.proofs.Common.{◌≡◌, ℕ, ◌*◌, List, [], ◌∷◌, ◌++◌, length, take, drop, refl, sym, ap, subst, ◌∙◌}
use Rattle.std.proofs.Common.{arith, length-append}
use Rattle.std.specs.Prelude.{Option, None, Some}
use Rattle.std.specs.Option.{option_map}
use Rattle.std.proofs.lemmas.List.{append_assoc, append-nil, take_at, drop_at}
use Rattle.byteorder.specs.Endian.{big_bytes}
use Rattle.byteorder.specs.Numbers.{big_number-reads_back}
use Rattle.icmp6_wire.specs.Words.{part, be8, be16, be32, fields, millis_of, seconds_of, octets_of, units_in}
use Rattle.icmp6_wire.specs.Words.{OptionValue, source, target, prefix_information, redirected, mtu, unknown, filled}
use Rattle.icmp6_wire.specs.Words.{BeginsWith}
use Rattle.icmp6_wire.specs.Words.{last_of, Ipv6Repr, PrefixInformation}
use Rattle.opt_wire.specs.NdiscOptionRepr as option
use Rattle.opt_wire.proofs.NdiscOptionReading.{option_read}
use Rattle.opt_wire.proofs.NdiscOptionTexts.{link_text, prefix_text, redirected_text, mtu_text, unknown_text}
use Rattle.opt_wire.proofs.NdiscOptionTexts.{length-text as length-option}
use Rattle.icmp6_wire.specs.NdiscBlocks.{IsBlock, AreBlocks, ends, goes_on, source_in, target_in, mtu_in}
use Rattle.icmp6_wire.specs.NdiscBlocks.{prefix_in, redirected_in}
use Rattle.icmp6_wire.specs.NdiscTables.{router_bits, neighbor_bits}
use Rattle.icmp6_wire.specs.Ndisc.{NdiscValue, router_solicit, router_advert, neighbor_solicit, neighbor_advert}
use Rattle.icmp6_wire.specs.Ndisc.{redirect}
use Rattle.icmp6_wire.specs.Ndisc.{sources, targets, mtus, prefixes, packets, options_of, option_texts, text, Each}
use Rattle.icmp6_wire.specs.Ndisc.{IsMessage, IsCanonical, whole_prefix, norm}
use Rattle.icmp6_wire.proofs.Icmpv6Seals.{Begins}

-- ---- the options

-- the text of an option is a block
text_units : (v : OptionValue) → option.text_len v ≡ 8 * units_in (option.text v)
text_units (source address) = omega (arith, ap units_in (link_text 1 address))
text_units (target address) = omega (arith, ap units_in (link_text 2 address))
text_units (prefix_information p) = omega (arith, ap units_in (prefix_text p))
text_units (redirected h d) = omega (arith, ap units_in (redirected_text h d))
text_units (mtu n) = omega (arith, ap units_in (mtu_text n))
text_units (unknown t n d) = omega (arith, ap units_in (unknown_text t n d))

pub can_emit : (v : OptionValue) → option.IsCanonical v → option.CanEmit v
can_emit (prefix_information p) c = (c.valid, c.preferred)
can_emit (redirected h d) c = (c.payload, c.small)
can_emit (unknown t n d) c = (c.2, c.4)
can_emit _ c = tt

text_read : (v : OptionValue) → option.IsCanonical v → BeginsWith (option.text v) (option.norm v)
text_read v c =
    subst (λ (l : List ℕ). BeginsWith l (option.norm v)) (append-nil (option.text v)) (option_read v [] c)

text_block : (v : OptionValue) → option.IsCanonical v → IsBlock (option.text v)
text_block v c =
    let read = text_read v c in
    record { begins = read.block; exact = length-option v (can_emit v c) ∙ text_units v }

-- the options of a message as they are read: those that are there, in their normal form
read_options : List (Option OptionValue) → List OptionValue
read_options [] = []
read_options (None ∷ os) = read_options os
read_options (Some v ∷ os) = option.norm v ∷ read_options os

options_text : (os : List (Option OptionValue)) → Each option.IsCanonical os
    → AreBlocks (fields (option_texts os)) (read_options os)
unfolding fields read_options
options_text [] c = ends
options_text (None ∷ os) c = options_text os c.1
options_text (Some v ∷ os) c =
    goes_on (option.text v) (fields (option_texts os)) (option.norm v) (text_block v c.0) (text_read v c.0)
    (options_text os c.1) refl

-- ---- the last of each kind

one_source : (l : Option (List ℕ)) → last_of source_in (read_options (sources l ∷ [])) ≡ option_map filled l
unfolding read_options
one_source l = grind arith

one_target : (l : Option (List ℕ)) → last_of target_in (read_options (targets l ∷ [])) ≡ option_map filled l
unfolding read_options
one_target l = grind arith

record OfRouter (l : Option (List ℕ)) (m : Option ℕ) (p : Option PrefixInformation) (os : List OptionValue)
    : Type 0 where
  link : option_map filled l ≡ last_of source_in os
  mtu : m ≡ last_of mtu_in os
  prefix_info : option_map whole_prefix p ≡ last_of prefix_in os

of_router : (l : Option (List ℕ)) (m : Option ℕ) (p : Option PrefixInformation)
    → OfRouter l m p (read_options (sources l ∷ mtus m ∷ prefixes p ∷ []))
unfolding read_options
of_router l m p = record { link = grind arith; mtu = grind arith; prefix_info = grind arith }

record OfRedirect (l : Option (List ℕ)) (r : Option (Ipv6Repr × List ℕ)) (os : List OptionValue) : Type 0 where
  link : option_map filled l ≡ last_of target_in os
  packet : r ≡ last_of redirected_in os

of_redirect : (l : Option (List ℕ)) (r : Option (Ipv6Repr × List ℕ))
    → OfRedirect l r (read_options (targets l ∷ packets r ∷ []))
unfolding read_options
of_redirect l r = record { link = grind arith; packet = grind arith }

-- ---- messages

-- the type, and what follows the checksum
abbrev pub kind_of : NdiscValue → ℕ
kind_of (router_solicit l) = 0x85
kind_of (router_advert a) = 0x86
kind_of (neighbor_solicit t l) = 0x87
kind_of (neighbor_advert flags t l) = 0x88
kind_of (redirect t d l r) = 0x89

tail : NdiscValue → List ℕ
tail v = fields (option_texts (options_of v))

pub body : NdiscValue → List ℕ
body (router_solicit l) = 0 ∷ 0 ∷ 0 ∷ 0 ∷ tail (router_solicit l)
body (router_advert a) =
    a.hop_limit ∷ router_bits a.flags
    ∷ (big_bytes 2 (seconds_of a.router_lifetime)
    ++ (big_bytes 4 (millis_of a.reachable_time)
    ++ (big_bytes 4 (millis_of a.retrans_time) ++ tail (router_advert a))))
body (neighbor_solicit t l) = 0 ∷ 0 ∷ 0 ∷ 0 ∷ (octets_of t ++ tail (neighbor_solicit t l))
body (neighbor_advert flags t l) = neighbor_bits flags ∷ 0 ∷ 0 ∷ 0 ∷ (octets_of t ++ tail (neighbor_advert flags t l))
body (redirect t d l r) = 0 ∷ 0 ∷ 0 ∷ 0 ∷ (octets_of t ++ (octets_of d ++ tail (redirect t d l r)))

pub text_at : (v : NdiscValue) → text v ≡ kind_of v ∷ 0 ∷ 0 ∷ 0 ∷ body v
unfolding fields be8 be16 be32 tail body
text_at (router_solicit l) = refl
text_at _ = refl

tail_blocks : (v : NdiscValue) → IsCanonical v → AreBlocks (tail v) (read_options (options_of v))
unfolding tail
tail_blocks v c = options_text (options_of v) c.1

two_dropped : (a b rest : List ℕ) → length a ≡ 16 → length b ≡ 16 → drop 32 (a ++ (b ++ rest)) ≡ rest
two_dropped a b rest one two =
    ap (λ (l : List ℕ). drop 32 l) (sym (append_assoc a b rest))
    ∙ drop_at (a ++ b) rest 32 (omega (arith, length-append a b, one, two))

message_at : (first second : ℕ) (v : NdiscValue) → IsCanonical v
    → IsMessage (kind_of v ∷ 0 ∷ first ∷ second ∷ body v) (norm v)
unfolding part body
message_at first second (router_solicit l) c = record {
  options = read_options (options_of (router_solicit l));
  passes = (omega arith, (refl, (omega arith, tt)));
  tiling = tail_blocks (router_solicit l) c;
  content = (refl, sym (one_source l));
}
message_at first second (router_advert a) c =
    let v : NdiscValue = router_advert a in
    let last = of_router a.lladdr a.mtu a.prefix_info in
    record {
      options = read_options (options_of v);
      passes = (omega arith, (refl, (omega arith, tt)));
      tiling = tail_blocks v c;
      content = record {
        kind = refl;
        hop_limit = refl;
        flags = sym c.0.1;
        router_lifetime =
            ap (λ (n : ℕ). 1000000 * n)
            (sym (big_number-reads_back 2 (seconds_of a.router_lifetime) [] (omega (arith, c.0.2.0))));
        reachable_time =
            ap (λ (n : ℕ). 1000 * n)
            (sym (big_number-reads_back 4 (millis_of a.reachable_time) [] (omega (arith, c.0.2.1))));
        retrans_time =
            ap (λ (n : ℕ). 1000 * n)
            (sym (big_number-reads_back 4 (millis_of a.retrans_time) [] (omega (arith, c.0.2.2))));
        lladdr = last.link;
        mtu = last.mtu;
        prefix_info = last.prefix_info;
      };
    }
message_at first second (neighbor_solicit t l) c =
    let v : NdiscValue = neighbor_solicit t l in
    let long = length-append (octets_of t) (tail v) in
    let sixteen = t.whole in
    record {
      options = read_options (options_of v);
      passes = (omega arith, (refl, (omega (arith, long, sixteen), tt)));
      tiling = rw (drop_at (octets_of t) (tail v) 16 t.whole) (tail_blocks v c);
      content = (refl, sym (take_at (octets_of t) (tail v) 16 t.whole), sym (one_source l));
    }
message_at first second (neighbor_advert flags t l) c =
    let v : NdiscValue = neighbor_advert flags t l in
    let long = length-append (octets_of t) (tail v) in
    let sixteen = t.whole in
    record {
      options = read_options (options_of v);
      passes = (omega arith, (refl, (omega (arith, long, sixteen), tt)));
      tiling = rw (drop_at (octets_of t) (tail v) 16 t.whole) (tail_blocks v c);
      content = (refl, sym c.0, sym (take_at (octets_of t) (tail v) 16 t.whole), sym (one_target l));
    }
message_at first second (redirect t d l r) c =
    let v : NdiscValue = redirect t d l r in
    let behind : List ℕ = octets_of d ++ tail v in
    let one = length-append (octets_of t) behind in
    let two = length-append (octets_of d) (tail v) in
    let sixteen = t.whole in
    let more = d.whole in
    let last = of_redirect l r in
    record {
      options = read_options (options_of v);
      passes = (omega arith, (refl, (omega (arith, one, two, sixteen, more), tt)));
      tiling = rw (two_dropped (octets_of t) (octets_of d) (tail v) t.whole d.whole) (tail_blocks v c);
      content = (
        refl,
        sym (take_at (octets_of t) behind 16 t.whole),
        sym (ap (λ (b : List ℕ). take 16 b) (drop_at (octets_of t) behind 16 t.whole)
            ∙ take_at (octets_of d) (tail v) 16 d.whole),
        last.link,
        last.packet,
      );
    }

-- the message of a canonical value, with any checksum, is read as its normal form
pub begun_read : (bytes : List ℕ) (v : NdiscValue) → IsCanonical v → Begins bytes (kind_of v) 0 (body v)
    → IsMessage bytes (norm v)
begun_read bytes v c b = rw b.whole (message_at b.first b.second v c)

pub message_text : (v : NdiscValue) → IsCanonical v → IsMessage (text v) (norm v)
message_text v c = begun_read (text v) v c (record { first = 0; second = 0; whole = text_at v })
