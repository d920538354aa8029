-- Texts of options are read back as their normal forms, whatever follows them.
use Rattle.opt_wire.proofs.Words.{[], ◌*◌, ◌++◌, ◌+◌, ◌-◌, ◌<◌, ◌^◌, ◌∙◌, ◌∷◌, ◌≡◌, ◌≢◌, ◌≤◌, BeginsWithBlock, Ipv6Repr}
use Rattle.opt_wire.proofs.Words.{IsProper, List, PrefixInformation, ℕ, ap, append-nil, append_assoc, arith, be16, be32}
use Rattle.opt_wire.proofs.Words.{be8, big_bytes, bytes_of, drop, drop_at, fields, flag_bits, length, length-append}
use Rattle.opt_wire.proofs.Words.{length-header_text, length-replicate, octets_of, over, over-fits, part}
use Rattle.opt_wire.proofs.Words.{protocol_number, protocol_of-number, protocol_rows, redirected_field, refl}
use Rattle.opt_wire.proofs.Words.{seconds_of, subst, sym, take, take_at, whole_seconds}
use Rattle.byteorder.specs.Numbers.{big_number-reads_back}
use Rattle.wirebase.specs.Ipv6.{IsPacket, payload_field, payload_len_in, header_fields, header_text}
use Rattle.wirebase.specs.declared.ip.IpProtocol.{IpProtocol}
use Rattle.opt_wire.specs.NdiscOptionRepr.{OptionValue, source, target, prefix_information, redirected, mtu, unknown}
use Rattle.opt_wire.specs.NdiscOptionRepr.{units, padding, filled, IsLinkAddr, BeginsWith, IsCanonicalPrefix}
use Rattle.opt_wire.specs.NdiscOptionRepr.{IsCanonicalRedirected, IsCanonical, IsUnnamed, text, norm}
use Rattle.opt_wire.proofs.NdiscOptionTexts.{link_text, prefix_text, redirected_text, mtu_text, unknown_text}

-- ---- blocks of no fixed length

block_at : (t n : ℕ) (d rest : List ℕ) → t ≢ 3 → t ≢ 4 → 1 ≤ n → 2 + length d ≡ 8 * n
    → BeginsWithBlock (t ∷ n ∷ (d ++ rest))
unfolding part
block_at t n d rest no_prefix no_packet some long =
    let all = length-append d rest in
    record {
      whole = record {
        fixed = omega (arith, all);
        counted = omega (arith, all);
        prefix_is = λ is. absurd (no_prefix is);
        redirected = λ is. absurd (no_packet is);
      };
      some = some;
    }

-- ---- link-layer addresses

abbrev link_at : ℕ → List ℕ → List ℕ → List ℕ
link_at t address rest = t ∷ units (2 + length address) ∷ ((address ++ padding (2 + length address)) ++ rest)

abbrev ReadsLink : ℕ → List ℕ → List ℕ → Type 0
ReadsLink t bytes address = BeginsWithBlock bytes × IsLinkAddr t bytes address

six_read : (t a b c d e f : ℕ) (rest : List ℕ) → t < 3 → ReadsLink t (t ∷ 1 ∷ a ∷ b ∷ c ∷ d ∷ e ∷ f ∷ rest)
    (a ∷ b ∷ c ∷ d ∷ e ∷ f ∷ [])
unfolding part
six_read t a b c d e f rest small = (
  block_at t 1 (a ∷ b ∷ c ∷ d ∷ e ∷ f ∷ []) rest (λ is. omega (arith, is)) (λ is. omega (arith, is)) (omega arith) refl,
  record { kind = refl; address_is = refl },
)

eight_read : (t a b c d e f g h : ℕ) (rest : List ℕ) → t < 3
    → ReadsLink t (t ∷ 2 ∷ a ∷ b ∷ c ∷ d ∷ e ∷ f ∷ g ∷ h ∷ 0 ∷ 0 ∷ 0 ∷ 0 ∷ 0 ∷ 0 ∷ rest)
    (a ∷ b ∷ c ∷ d ∷ e ∷ f ∷ g ∷ h ∷ [])
unfolding part
eight_read t a b c d e f g h rest small = (
  block_at t 2 (a ∷ b ∷ c ∷ d ∷ e ∷ f ∷ g ∷ h ∷ 0 ∷ 0 ∷ 0 ∷ 0 ∷ 0 ∷ 0 ∷ []) rest (λ is. omega (arith, is))
      (λ is. omega (arith, is)) (omega arith) refl,
  record { kind = refl; address_is = refl },
)

link_read : (t : ℕ) (address rest : List ℕ) → t < 3 → length address ≤ 8
    → ReadsLink t (link_at t address rest) (filled address)
link_read t [] rest small fits = six_read t 0 0 0 0 0 0 rest small
link_read t (a ∷ []) rest small fits = six_read t a 0 0 0 0 0 rest small
link_read t (a ∷ b ∷ []) rest small fits = six_read t a b 0 0 0 0 rest small
link_read t (a ∷ b ∷ c ∷ []) rest small fits = six_read t a b c 0 0 0 rest small
link_read t (a ∷ b ∷ c ∷ d ∷ []) rest small fits = six_read t a b c d 0 0 rest small
link_read t (a ∷ b ∷ c ∷ d ∷ e ∷ []) rest small fits = six_read t a b c d e 0 rest small
link_read t (a ∷ b ∷ c ∷ d ∷ e ∷ f ∷ []) rest small fits = six_read t a b c d e f rest small
link_read t (a ∷ b ∷ c ∷ d ∷ e ∷ f ∷ g ∷ []) rest small fits = eight_read t a b c d e f g 0 rest small
link_read t (a ∷ b ∷ c ∷ d ∷ e ∷ f ∷ g ∷ h ∷ []) rest small fits = eight_read t a b c d e f g h rest small
link_read t (a ∷ b ∷ c ∷ d ∷ e ∷ f ∷ g ∷ h ∷ i ∷ more) rest small fits = absurd (omega arith)

-- the filled address has the same text
pub link_same : (t : ℕ) (address : List ℕ) → length address ≤ 8
    → t ∷ units (2 + length (filled address)) ∷ (filled address ++ padding (2 + length (filled address))) ≡ t
    ∷ units (2 + length address) ∷ (address ++ padding (2 + length address))
link_same t [] fits = refl
link_same t (a ∷ []) fits = refl
link_same t (a ∷ b ∷ []) fits = refl
link_same t (a ∷ b ∷ c ∷ []) fits = refl
link_same t (a ∷ b ∷ c ∷ d ∷ []) fits = refl
link_same t (a ∷ b ∷ c ∷ d ∷ e ∷ []) fits = refl
link_same t (a ∷ b ∷ c ∷ d ∷ e ∷ f ∷ []) fits = refl
link_same t (a ∷ b ∷ c ∷ d ∷ e ∷ f ∷ g ∷ []) fits = refl
link_same t (a ∷ b ∷ c ∷ d ∷ e ∷ f ∷ g ∷ h ∷ []) fits = refl
link_same t (a ∷ b ∷ c ∷ d ∷ e ∷ f ∷ g ∷ h ∷ i ∷ more) fits = absurd (omega arith)

-- ---- prefixes

abbrev prefix_of : PrefixInformation → PrefixInformation
prefix_of p = record p {
  valid_lifetime = whole_seconds p.valid_lifetime;
  preferred_lifetime = whole_seconds p.preferred_lifetime;
}

prefix_read : (p : PrefixInformation) (rest : List ℕ) → IsCanonicalPrefix p
    → BeginsWith
    (3 ∷ 4 ∷ p.prefix_len ∷ flag_bits p.flags
    ∷ (big_bytes 4 (seconds_of p.valid_lifetime)
    ++ (big_bytes 4 (seconds_of p.preferred_lifetime) ++ (0 ∷ 0 ∷ 0 ∷ 0 ∷ (octets_of p.prefix ++ rest)))))
    (prefix_information (prefix_of p))
unfolding part
prefix_read p rest c =
    let long = length-append (octets_of p.prefix) rest in
    let wide = p.prefix.whole in
    record {
      block = record {
        whole = record {
          fixed = omega (arith, long, wide);
          counted = omega (arith, long, wide);
          prefix_is = λ is. omega arith;
          redirected = λ is. absurd (omega (arith, is));
        };
        some = omega arith;
      };
      reading = record {
        kind = refl;
        count = refl;
        len = refl;
        flags = sym c.flags;
        valid = ap (λ (n : ℕ). 1000000 * n)
            (sym (big_number-reads_back 4 (seconds_of p.valid_lifetime) [] (omega (arith, c.valid))));
        preferred =
            ap (λ (n : ℕ). 1000000 * n)
            (sym (big_number-reads_back 4 (seconds_of p.preferred_lifetime) [] (omega (arith, c.preferred))));
        octets = sym (take_at (octets_of p.prefix) rest 16 p.prefix.whole);
      };
    }

-- ---- redirected packets

packet_text : (h : Ipv6Repr) (behind : List ℕ) → header_text h ++ behind ≡ 0x60 ∷ 0 ∷ 0 ∷ 0
    ∷ (big_bytes 2 h.payload_len
    ++ (protocol_number h.next_header ∷ h.hop_limit ∷ (octets_of h.src_addr ++ (octets_of h.dst_addr ++ behind))))
unfolding header_text header_fields fields be8 be16 be32
packet_text h behind = simp (append-nil, append_assoc)

-- a header and its payload are a packet
packet_at : (h : Ipv6Repr) (behind : List ℕ) → IsProper IpProtocol.Unknown protocol_rows h.next_header
    → h.payload_len < 2 ^ 16 → h.payload_len ≤ length behind
    → IsPacket (0x60 ∷ 0 ∷ 0 ∷ 0
    ∷ (big_bytes 2 h.payload_len
    ++ (protocol_number h.next_header ∷ h.hop_limit ∷ (octets_of h.src_addr ++ (octets_of h.dst_addr ++ behind))))) h
unfolding part
packet_at h behind proper fits there =
    let far : List ℕ = octets_of h.dst_addr ++ behind in
    let one = length-append (octets_of h.src_addr) far in
    let two = length-append (octets_of h.dst_addr) behind in
    let count = big_number-reads_back 2 h.payload_len [] (omega (arith, fits)) in
    let source_whole = h.src_addr.whole in
    let destination_whole = h.dst_addr.whole in
    record {
      whole = record {
        fixed = omega (arith, one, two, source_whole, destination_whole);
        total = omega (arith, one, two, source_whole, destination_whole, there, count);
      };
      version = refl;
      header = record {
        payload = sym count;
        protocol = sym (protocol_of-number h.next_header proper);
        hops = refl;
        source = sym (take_at (octets_of h.src_addr) far 16 h.src_addr.whole);
        destination =
            sym (ap (λ (l : List ℕ). take 16 l) (drop_at (octets_of h.src_addr) far 16 h.src_addr.whole)
            ∙ take_at (octets_of h.dst_addr) behind 16 h.dst_addr.whole);
      };
    }

pub packet_read : (h : Ipv6Repr) (behind : List ℕ) → IsProper IpProtocol.Unknown protocol_rows h.next_header
    → h.payload_len < 2 ^ 16 → h.payload_len ≤ length behind → IsPacket (header_text h ++ behind) h
packet_read h behind proper fits there =
    subst (λ (l : List ℕ). IsPacket l h) (sym (packet_text h behind)) (packet_at h behind proper fits there)

redirected_read : (h : Ipv6Repr) (d rest : List ℕ) → IsCanonicalRedirected h d
    → BeginsWith
    (4 ∷ units (48 + length d) ∷ 0 ∷ 0 ∷ 0 ∷ 0 ∷ 0 ∷ 0 ∷ ((header_text h ++ (d ++ padding (48 + length d))) ++ rest))
    (redirected h d)
unfolding part
redirected_read h d rest c =
    let pads : List ℕ = padding (48 + length d) in
    let packet : List ℕ = header_text h ++ (d ++ pads) in
    let zeros = length-replicate {A = ℕ} (8 * units (48 + length d) - (48 + length d)) 0 in
    let behind = length-append d pads in
    let long : length packet ≡ 8 * units (48 + length d) - 8 =
    omega (arith, length-append (header_text h) (d ++ pads), length-header_text h, behind, zeros) in
    let all = length-append packet rest in
    let place : bytes_of (redirected_field (4 ∷ units (48 + length d) ∷ []))
    (4 ∷ units (48 + length d) ∷ 0 ∷ 0 ∷ 0 ∷ 0 ∷ 0 ∷ 0 ∷ (packet ++ rest)) ≡ packet =
    take_at packet rest (8 * units (48 + length d) - 8) long in
    let is : IsPacket packet h =
    packet_read h (d ++ pads) c.proper (omega (arith, c.payload, c.small)) (omega (arith, behind, c.payload)) in
    let count : 40 + payload_len_in packet - 40 ≡ length d = omega (arith, is.header.payload, c.payload) in
    let body : drop 40 packet ≡ d ++ pads = drop_at (header_text h) (d ++ pads) 40 (length-header_text h) in
    let payload_is : bytes_of (payload_field packet) packet ≡ d =
    ap (λ (n : ℕ). take n (drop 40 packet)) count ∙ ap (λ (l : List ℕ). take (length d) l) body
    ∙ take_at d pads (length d) refl in
    record {
      block = record {
        whole = record {
          fixed = omega (arith, all, long);
          counted = omega (arith, all, long);
          prefix_is = λ is. absurd (omega (arith, is));
          redirected = λ is. omega arith;
        };
        some = omega arith;
      };
      reading = record {
        kind = refl;
        packet = subst (λ (l : List ℕ). IsPacket l h) (sym place) is;
        payload = sym (ap (λ (l : List ℕ). bytes_of (payload_field l) l) place ∙ payload_is);
      };
    }

-- ---- MTUs and options of other types

mtu_read : (n : ℕ) (rest : List ℕ) → n < 2 ^ 32 → BeginsWith (5 ∷ 1 ∷ 0 ∷ 0 ∷ (big_bytes 4 n ++ rest)) (mtu n)
unfolding part
mtu_read n rest fits = record {
  block = block_at 5 1 (0 ∷ 0 ∷ big_bytes 4 n) rest (λ is. omega (arith, is)) (λ is. omega (arith, is)) (omega arith)
      refl;
  reading = record { kind = refl; count = refl; number = sym (big_number-reads_back 4 n [] (omega (arith, fits))) };
}

unknown_read : (t n : ℕ) (d rest : List ℕ) → IsUnnamed t → 1 ≤ n → 2 + length d ≡ 8 * n
    → BeginsWith (t ∷ n ∷ (d ++ rest)) (unknown t n d)
unfolding part
unknown_read t n d rest unnamed some long = record {
  block = block_at t n d rest unnamed.2 unnamed.3 some long;
  reading = record {
    kind = refl;
    unnamed = unnamed;
    count = refl;
    data_is = sym (take_at d rest (8 * n - 2) (omega arith));
  };
}

-- ---- all of them

pub option_read : (v : OptionValue) (rest : List ℕ) → IsCanonical v → BeginsWith (text v ++ rest) (norm v)
option_read (source address) rest c =
    let read = link_read 1 address rest (omega arith) c in
    rw (link_text 1 address) (record { block = read.0; reading = read.1 })
option_read (target address) rest c =
    let read = link_read 2 address rest (omega arith) c in
    rw (link_text 2 address) (record { block = read.0; reading = read.1 })
option_read (prefix_information p) rest c = rw (prefix_text p) (prefix_read p rest c)
option_read (redirected h d) rest c = rw (redirected_text h d) (redirected_read h d rest c)
option_read (mtu n) rest c = rw (mtu_text n) (mtu_read n rest c)
option_read (unknown t n d) rest c = rw (unknown_text t n d) (unknown_read t n d rest c.0 c.2 c.4)

-- where the text was written over the front of other bytes
pub option_over : (old : List ℕ) (v : OptionValue) → length (text v) ≤ length old → IsCanonical v
    → BeginsWith (over old (text v)) (norm v)
option_over old v room c = rw (over-fits old (text v) room) (option_read v (drop (length (text v)) old) c)
