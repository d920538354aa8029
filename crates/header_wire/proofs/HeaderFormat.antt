-- The format of packets of IPv4: what is read in their texts, and what was read.
use Rattle.std.proofs.Common.{◌≡◌, ℕ, ◌-◌, ◌≤◌, ◌<◌, ◌^◌, Bool}
use Rattle.std.proofs.Common.{List, ◌++◌, length, take, drop, refl, sym, ap, subst, ◌∙◌, arith}
use Rattle.std.specs.Prelude.{slice_index}
use Rattle.std.proofs.lemmas.List.{take_at}
use Rattle.wirebase.specs.Bytes.{IsBytes, part, over}
use Rattle.wirebase.specs.Checksum.{IsGood}
use Rattle.wirebase.specs.Format.{Rewrites}
use Rattle.wirebase.specs.Ipv4.{header_len_in, total_len_in}
use Rattle.wirebase.proofs.ByteParts.{number_of-small}
use Rattle.wirebase.proofs.Format.{IsFormat, round_trips}
use Rattle.wirebase.proofs.IpProtocols.{protocol-read}
use Rattle.wirebase.proofs.Ipv4Header.{same_address}
use Rattle.wirebase.proofs.Pieces.{length-part, over-fits, over-exact}
use Rattle.wirebase.specs.declared.ip.IpProtocol.{IpProtocol}
use Rattle.wirebase.specs.declared.ipv4.Ipv4Address.{Ipv4Address}
use Rattle.wirebase.proofs.Parses.{same_flag}
use Rattle.header_wire.specs.Ipv4.{Value, Packet, packet, text_len, header_text, Says, IsPacket}
use Rattle.header_wire.specs.Ipv4.{IsCanonical, packet_text, format, Emits}
use Rattle.header_wire.proofs.HeaderTexts.{shape, header-shape, length-header_text, good-header_text, says, passes}
use Rattle.header_wire.proofs.HeaderTexts.{payload_is}

-- ---- reading what was written

packet_read : (p : Packet) → IsCanonical p → IsPacket (packet_text p) p
packet_read p c =
    let v : Value = p.header in
    let laid = header-shape v in
    let good : IsGood (shape v laid.0 laid.1) 0 = subst (λ (l : List ℕ). IsGood l 0) laid.2 (good-header_text v) in
    subst (λ (l : List ℕ). IsPacket l p) (sym (ap (λ (l : List ℕ). l ++ p.payload) laid.2)) (record {
      passes = passes v laid.0 laid.1 p.payload c good;
      says = says v laid.0 laid.1 p.payload c;
      payload = payload_is v laid.0 laid.1 p.payload c;
    })

-- ---- what was read

abbrev value : ℕ → ℕ → Bool → Bool → ℕ → ℕ → IpProtocol → Ipv4Address → Ipv4Address → List ℕ → ℕ → Value
value service ident dont more offset hops protocol source destination options len = record {
  service = service;
  ident = ident;
  dont_frag = dont;
  more_frags = more;
  frag_offset = offset;
  hop_limit = hops;
  protocol = protocol;
  src_addr = source;
  dst_addr = destination;
  options = options;
  payload_len = len;
}

says-one : (bytes : List ℕ) (v w : Value) → Says bytes v → Says bytes w → v ≡ w
says-one bytes v w a b =
    let service = a.service ∙ sym b.service in
    let ident = a.ident ∙ sym b.ident in
    let dont = same_flag v.dont_frag w.dont_frag _ a.dont_frag b.dont_frag in
    let more = same_flag v.more_frags w.more_frags _ a.more_frags b.more_frags in
    let offset = a.frag_offset ∙ sym b.frag_offset in
    let hops = a.hop_limit ∙ sym b.hop_limit in
    let protocol = a.protocol ∙ sym b.protocol in
    let source = same_address v.src_addr w.src_addr (a.src_addr ∙ sym b.src_addr) in
    let destination = same_address v.dst_addr w.dst_addr (a.dst_addr ∙ sym b.dst_addr) in
    let options = a.options ∙ sym b.options in
    let len : v.payload_len ≡ w.payload_len = omega (arith, a.payload_len, b.payload_len) in
    let same : value v.service v.ident v.dont_frag v.more_frags v.frag_offset v.hop_limit v.protocol v.src_addr
    v.dst_addr v.options v.payload_len ≡ value w.service w.ident w.dont_frag w.more_frags w.frag_offset w.hop_limit
    w.protocol w.src_addr w.dst_addr w.options w.payload_len =
    rw (service, ident, dont, more, offset, hops, protocol, source, destination, options, len) refl in
    same

packet-one : (bytes : List ℕ) (p q : Packet) → IsPacket bytes p → IsPacket bytes q → p ≡ q
packet-one bytes p q a b =
    ap (λ (v : Value). packet v p.payload) (says-one bytes p.header q.header a.says b.says)
    ∙ ap (λ (l : List ℕ). packet q.header l) (a.payload ∙ sym b.payload)

accepted : (bytes : List ℕ) (p : Packet) → IsBytes bytes → IsPacket bytes p → IsCanonical p
accepted bytes p are m =
    let v : Value = p.header in
    let s = m.says in
    let long : header_len_in bytes ≤ length bytes = m.passes.1.1.1.0 in
    let order : header_len_in bytes ≤ total_len_in bytes = m.passes.1.1.1.1.0 in
    let total : total_len_in bytes ≤ length bytes = m.passes.1.1.1.1.1.0 in
    let options : length v.options ≡ header_len_in bytes - 20 =
    ap (λ (l : List ℕ). length l) s.options ∙ length-part bytes 20 (header_len_in bytes) m.passes.1.1.0 long in
    let payload : length p.payload ≡ total_len_in bytes - header_len_in bytes =
    ap (λ (l : List ℕ). length l) m.payload
    ∙ length-part bytes (header_len_in bytes) (total_len_in bytes) order total in
    let small : total_len_in bytes < 2 ^ 16 = number_of-small 2 4 bytes refl are in
    let number = protocol-read (slice_index bytes 9) s.protocol in
    record {
      service = omega (arith, s.service, are 1);
      ident = omega (arith, s.ident, number_of-small 4 6 bytes refl are);
      frag_offset = omega (arith, s.frag_offset);
      hop_limit = omega (arith, s.hop_limit, are 8);
      protocol = number.0;
      number = omega (arith, number.1, are 9);
      options = (omega (arith, options, m.passes.1.1.0), omega (arith, options));
      payload = omega (arith, payload, s.payload_len);
      total = omega (arith, options, m.passes.1.1.0, s.payload_len, small);
    }

-- ---- the format

pub packet_format : IsFormat format
packet_format = record {
  one_value = packet-one;
  reads_back = λ p fills c. packet_read p c;
  norm_canonical = λ p c. c;
  norm_norm = λ p. refl;
  norm_text = λ p c regular. refl;
  accepted = λ bytes p are few m. accepted bytes p are m;
  regular = λ bytes p m e. e;
  kept = λ bytes p are c m uncut. refl;
}

-- what was read can be written, whatever its length
pub packet_rewrites : (bytes : List ℕ) (p : Packet) → IsBytes bytes → IsPacket bytes p → Rewrites format p
packet_rewrites bytes p are m = record {
  canonical = accepted bytes p are m;
  regular = λ e. e;
  reads_back = λ fills. packet_read p (accepted bytes p are m);
  same_text = refl;
  same_value = λ uncut. refl;
}

-- what is left where a header was written
pub header_emits : (v : Value) (old header : List ℕ) (n : ℕ) → text_len v ≤ length old → n ≡ text_len v
    → header ≡ header_text v → Emits v old (header ++ drop n old)
unfolding part
header_emits v old header n room is e =
    let long = length-header_text v in
    let left : header ++ drop n old ≡ over old (header_text v) =
    ap (λ (l : List ℕ). l ++ drop n old) e ∙ ap (λ (k : ℕ). header_text v ++ drop k old) (is ∙ sym long)
    ∙ sym (over-fits old (header_text v) (omega (arith, room, long))) in
    let front : take (text_len v - 0) (header ++ drop n old) ≡ header_text v =
    ap (λ (k : ℕ). take k (header ++ drop n old)) (omega arith)
    ∙ ap (λ (l : List ℕ). take (text_len v) (l ++ drop n old)) e
    ∙ take_at (header_text v) (drop n old) (text_len v) long in
    record {
      written = left;
      good = subst (λ (l : List ℕ). IsGood l 0) (sym front) (good-header_text v);
      exact = λ whole. left ∙ over-exact old (header_text v) (whole ∙ sym long);
      round_trips = λ payload. round_trips format packet_format (packet v payload);
    }
