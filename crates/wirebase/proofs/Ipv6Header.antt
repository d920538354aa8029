-- IPv6 addresses and headers: their texts as they are written, and what is read in them.
use Rattle.wirebase.proofs.Words.{◌≡◌, ◌<◌, ◌^◌, [], ◌∷◌, ◌++◌, ◌∙◌, IpProtocol, IsHeader, IsProper, List, Sheet, ℕ}
use Rattle.wirebase.proofs.Words.{ℕ_set, ap, append-nil, arith, be16, be32, be8, big_bytes, big_number-reads_back}
use Rattle.wirebase.proofs.Words.{blank, drop, drop_at, fields, length, length-append, over, part, protocol_number}
use Rattle.wirebase.proofs.Words.{protocol_rows, pseudo_fields, put_all, refl, subst, sym, take, take_at}
use Rattle.std.proofs.lemmas.List.{append_assoc}
use Rattle.wirebase.specs.declared.ipv6.address.Ipv6Address.{Ipv6Address}
use Rattle.wirebase.specs.declared.ipv6.Ipv6Repr.{Ipv6Repr}
use Rattle.wirebase.specs.Ipv6.{header_fields, header_text}
use Rattle.wirebase.specs.Ipv6Address.{octets_of}
use Rattle.wirebase.proofs.Pieces.{over-exact}
use Rattle.wirebase.proofs.IpProtocols.{protocol_of-number}
use Rattle.wirebase.proofs.Chains.{over-blank, put-fields, whole-sheet}

-- ---- addresses

address_of : (octets : List ℕ) → length octets ≡ 16 → Ipv6Address
address_of octets whole = record { octets = octets; whole = whole }

pub same_address : (x y : Ipv6Address) → octets_of x ≡ octets_of y → x ≡ y
unfolding address_of
same_address x y e =
    subst (λ (l : List ℕ). (whole : length l ≡ 16) → x ≡ address_of l whole) e
    (λ whole. ap (address_of x.octets) (ℕ_set _ _ x.whole whole)) y.whole

-- ---- the text as it is written

header_text-fields : (r : Ipv6Repr) → header_text r ≡ 0x60 ∷ 0 ∷ 0 ∷ 0
    ∷ (big_bytes 2 r.payload_len
    ++ (protocol_number r.next_header ∷ r.hop_limit ∷ (octets_of r.src_addr ++ octets_of r.dst_addr)))
unfolding header_text header_fields fields be8 be16 be32
header_text-fields r = simp append-nil

pub length-header_text : (r : Ipv6Repr) → length (header_text r) ≡ 40
length-header_text r =
    omega (
      arith,
      ap length (header_text-fields r),
      length-append (octets_of r.src_addr) (octets_of r.dst_addr),
      r.src_addr.whole,
      r.dst_addr.whole,
    )

-- ---- what is read in it

header_of : Ipv6Address → Ipv6Address → IpProtocol → ℕ → ℕ → Ipv6Repr
header_of source destination protocol payload hops =
    record {
      src_addr = source;
      dst_addr = destination;
      next_header = protocol;
      payload_len = payload;
      hop_limit = hops;
    }

same_header : (r s : Ipv6Repr) → r.src_addr ≡ s.src_addr → r.dst_addr ≡ s.dst_addr → r.next_header ≡ s.next_header
    → r.payload_len ≡ s.payload_len → r.hop_limit ≡ s.hop_limit → r ≡ s
unfolding header_of
same_header r s source destination protocol payload hops =
    let made : header_of r.src_addr r.dst_addr r.next_header r.payload_len r.hop_limit
    ≡ header_of s.src_addr s.dst_addr s.next_header s.payload_len s.hop_limit = cc in
    made

-- bytes begin with one header at most
pub one_header : (bytes : List ℕ) (r s : Ipv6Repr) → IsHeader bytes r → IsHeader bytes s → r ≡ s
one_header bytes r s a b =
    let source = same_address r.src_addr s.src_addr (a.source ∙ sym b.source) in
    let destination = same_address r.dst_addr s.dst_addr (a.destination ∙ sym b.destination) in
    same_header r s source destination (a.protocol ∙ sym b.protocol) (a.payload ∙ sym b.payload) (a.hops ∙ sym b.hops)

-- ---- lemmas for the emitter

-- a writer that had longer octets, all of them free, leaves the header over their front
pub over-header : (old : List ℕ) (r : Ipv6Repr) → over old (header_text r)
    ≡ (put_all (blank old) (header_fields r)).written ++ (put_all (blank old) (header_fields r)).free
unfolding header_text
over-header old r =
    over-blank old (header_text r)
    ∙ ap (λ (s : Sheet). s.written ++ s.free) (put-fields (blank old) (header_fields r))

pub ruleset header_writes = (over-header, whole-sheet)

-- ---- reading what was written

header-fields_read : (r : Ipv6Repr) (payload : List ℕ) → r.payload_len < 2 ^ 16
    → IsProper IpProtocol.Unknown protocol_rows r.next_header
    → IsHeader (0x60 ∷ 0 ∷ 0 ∷ 0
    ∷ (big_bytes 2 r.payload_len
    ++ (protocol_number r.next_header ∷ r.hop_limit ∷ (octets_of r.src_addr ++ (octets_of r.dst_addr ++ payload))))) r
unfolding part
header-fields_read r payload fits proper =
    let behind : List ℕ = octets_of r.dst_addr ++ payload in
    record {
      payload = sym (big_number-reads_back 2 r.payload_len [] (omega (arith, fits)));
      protocol = sym (protocol_of-number r.next_header proper);
      hops = refl;
      source = sym (take_at (octets_of r.src_addr) behind 16 r.src_addr.whole);
      destination =
          sym (ap (λ (l : List ℕ). take 16 l) (drop_at (octets_of r.src_addr) behind 16 r.src_addr.whole)
          ∙ take_at (octets_of r.dst_addr) payload 16 r.dst_addr.whole);
    }

pub header-read : (r : Ipv6Repr) (payload : List ℕ) → r.payload_len < 2 ^ 16
    → IsProper IpProtocol.Unknown protocol_rows r.next_header → IsHeader (header_text r ++ payload) r
header-read r payload fits proper =
    let front : List ℕ = big_bytes 2 r.payload_len in
    let apart : (octets_of r.src_addr ++ octets_of r.dst_addr) ++ payload ≡ octets_of r.src_addr
    ++ (octets_of r.dst_addr ++ payload) =
    append_assoc (octets_of r.src_addr) (octets_of r.dst_addr) payload in
    let text : header_text r ++ payload ≡ 0x60 ∷ 0 ∷ 0 ∷ 0 ∷
    (front ++ (protocol_number r.next_header ∷ r.hop_limit
    ∷ (octets_of r.src_addr ++ (octets_of r.dst_addr ++ payload)))) =
    ap (λ (l : List ℕ). l ++ payload) (header_text-fields r)
    ∙ ap (λ (l : List ℕ). 0x60 ∷ 0 ∷ 0 ∷ 0 ∷ (front ++ (protocol_number r.next_header ∷ r.hop_limit ∷ l))) apart in
    subst (λ (l : List ℕ). IsHeader l r) (sym text) (header-fields_read r payload fits proper)

-- after the header comes the payload
pub drop-header_text : (r : Ipv6Repr) (payload : List ℕ) → drop 40 (header_text r ++ payload) ≡ payload
drop-header_text r payload = drop_at (header_text r) payload 40 (length-header_text r)

-- a header in octets of exactly its length
pub over-header_whole : (old : List ℕ) (r : Ipv6Repr) → length old ≡ 40 → over old (header_text r) ≡ header_text r
over-header_whole old r whole = over-exact old (header_text r) (whole ∙ sym (length-header_text r))

-- lemmas for emitters of quotes
pub ruleset header_texts = (length-header_text, over-header_whole)

-- ---- the pseudo header

pub length-pseudo : (source destination : Ipv6Address) (protocol : IpProtocol) (n : ℕ)
    → length (fields (pseudo_fields source destination protocol n)) ≡ 40
unfolding pseudo_fields fields be8 be32
length-pseudo source destination protocol n =
    let rest : List ℕ = big_bytes 4 n ++ (0 ∷ 0 ∷ 0 ∷ (protocol_number protocol ∷ [])) in
    omega (
      arith,
      length-append (octets_of source) (octets_of destination ++ rest),
      length-append (octets_of destination) rest,
      source.whole,
      destination.whole,
    )

-- it is written over octets of exactly its length
pub over-pseudo : (old : List ℕ) (source destination : Ipv6Address) (protocol : IpProtocol) (n : ℕ) → length old ≡ 40
    → over old (fields (pseudo_fields source destination protocol n))
    ≡ fields (pseudo_fields source destination protocol n)
over-pseudo old source destination protocol n whole =
    over-exact old (fields (pseudo_fields source destination protocol n))
    (whole ∙ sym (length-pseudo source destination protocol n))
