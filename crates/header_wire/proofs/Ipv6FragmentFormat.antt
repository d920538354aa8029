-- The format of fragments of IPv6: what is read in their texts, and what was read.
use Rattle.std.proofs.Common.{◌≡◌, ◌↔◌, ℕ, ◌+◌, ◌*◌, ◌/◌, ◌%◌, ◌<◌, ◌^◌, Bool, true, false, IsTrue}
use Rattle.std.proofs.Common.{List, [], length, refl, sym, ap, ◌∙◌, arith}
use Rattle.std.specs.Prelude.{Result, slice_index, if◌then◌else◌}
use Rattle.std.specs.Borrow.{Bor}
use Rattle.std.specs.Result.{IfOk}
use Rattle.std.proofs.lemmas.Result.{IfOk-weaker}
use Rattle.byteorder.specs.Numbers.{big_number-reads_back}
use Rattle.wirebase.specs.Bytes.{IsBytes, part, over, number_of}
use Rattle.wirebase.specs.ByteWriter.{be8, be16, be32, fields}
use Rattle.wirebase.specs.Format.{Rewrites}
use Rattle.wirebase.specs.declared.ip.IpProtocol.{IpProtocol}
use Rattle.wirebase.proofs.ByteParts.{number_of-small}
use Rattle.wirebase.proofs.Format.{IsFormat, round_trips}
use Rattle.wirebase.proofs.IpProtocols.{protocol_of-number, protocol-read}
use Rattle.wirebase.proofs.Parses.{same_flag}
use Rattle.wirebase.proofs.Pieces.{over-exact}
use Rattle.wirebase.proofs.WideParts.{number_of-small4}
use Rattle.header_wire.specs.Ipv6Fragment.{Packet, packet, text_len, offset_number, text, offset_field, ident_field}
use Rattle.header_wire.specs.Ipv6Fragment.{packet_of, Says, IsPacket, IsCanonical, packet_text, format, Emits}
use Rattle.header_wire.specs.declared.ipv6_fragment.Header.{Header}
use Rattle.header_wire.specs.declared.ipv6_fragment.Refusal.{Refusal}

-- ---- the offset and M

abbrev word : ℕ → Bool → ℕ
word offset more = 8 * offset + (if more then 1 else 0)

record Parts (offset : ℕ) (more : Bool) : Type 0 where
  small : word offset more < 65536
  offset_is : offset ≡ word offset more / 8
  more_is : IsTrue more ↔ (word offset more % 2 ≡ 1)

word_read : (offset : ℕ) (more : Bool) → offset < 2 ^ 13 → Parts offset more
word_read offset true few = record {
  small = omega arith;
  offset_is = omega arith;
  more_is = (λ yes. omega arith, λ yes. refl);
}
word_read offset false few = record {
  small = omega arith;
  offset_is = omega arith;
  more_is = (λ no. cc, λ one. absurd (omega (arith, one)));
}

-- ---- reading what was written

length-text : (h : Header) → length (text h) ≡ text_len
unfolding fields be8 be16 be32
length-text h = refl

packet_read : (p : Packet) → IsCanonical p → IsPacket (packet_text p) p
unfolding fields be8 be16 be32 part
packet_read p c =
    let h : Header = p.header in
    let read = word_read h.frag_offset h.more_frags c.frag_offset in
    let number = big_number-reads_back 2 (offset_number h) [] read.small in
    record {
      passes = (omega arith, tt);
      says = record {
        next_header = sym (protocol_of-number h.next_header c.next_header);
        frag_offset = rw number read.offset_is;
        more_frags = rw number read.more_is;
        ident = sym (big_number-reads_back 4 h.ident [] c.ident);
      };
      payload = refl;
    }

-- ---- what was read

abbrev header : IpProtocol → ℕ → Bool → ℕ → Header
header next_header offset more ident =
    record { next_header = next_header; frag_offset = offset; more_frags = more; ident = ident }

says-one : (bytes : List ℕ) (h k : Header) → Says bytes h → Says bytes k → h ≡ k
says-one bytes h k a b =
    let next_header = a.next_header ∙ sym b.next_header in
    let offset = a.frag_offset ∙ sym b.frag_offset in
    let more = same_flag h.more_frags k.more_frags _ a.more_frags b.more_frags in
    let ident = a.ident ∙ sym b.ident in
    let same : header h.next_header h.frag_offset h.more_frags h.ident
    ≡ header k.next_header k.frag_offset k.more_frags k.ident =
    rw (next_header, offset, more, ident) refl in
    same

packet-one : (bytes : List ℕ) (p q : Packet) → IsPacket bytes p → IsPacket bytes q → p ≡ q
packet-one bytes p q a b =
    ap (λ (h : Header). packet h p.payload) (says-one bytes p.header q.header a.says b.says)
    ∙ ap (λ (l : List ℕ). packet q.header l) (a.payload ∙ sym b.payload)

accepted : (bytes : List ℕ) (p : Packet) → IsBytes bytes → IsPacket bytes p → IsCanonical p
accepted bytes p are m =
    let read = protocol-read (slice_index bytes 0) m.says.next_header in
    let offset : number_of offset_field bytes < 2 ^ 16 = number_of-small 2 4 bytes refl are in
    let ident : number_of ident_field bytes < 2 ^ 32 = number_of-small4 4 8 bytes refl are in
    record {
      next_header = read.0;
      number = omega (arith, read.1, are 0);
      frag_offset = omega (arith, m.says.frag_offset, offset);
      ident = omega (arith, m.says.ident, ident);
    }

-- ---- the format

pub packet_format : IsFormat format
packet_format = record {
  one_value = packet-one;
  reads_back = λ p fills c. packet_read p c;
  norm_canonical = λ p c. c;
  norm_norm = λ p. refl;
  norm_text = λ p c regular. refl;
  accepted = λ bytes p are few m. accepted bytes p are m;
  regular = λ bytes p m e. e;
  kept = λ bytes p are c m uncut. refl;
}

-- what was read can be written, whatever its length
packet_rewrites : (bytes : List ℕ) (p : Packet) → IsBytes bytes → IsPacket bytes p → Rewrites format p
packet_rewrites bytes p are m = record {
  canonical = accepted bytes p are m;
  regular = λ e. e;
  reads_back = λ fills. packet_read p (accepted bytes p are m);
  same_text = refl;
  same_value = λ uncut. refl;
}

pub all_rewrite : (bytes : List ℕ) (result : Result (Header × Bor (List ℕ)) Refusal) → IsBytes bytes
    → IfOk result (λ both. IsPacket bytes (packet_of both)) → IfOk result (λ both. Rewrites format (packet_of both))
all_rewrite bytes result are sound =
    IfOk-weaker result (λ both. IsPacket bytes (packet_of both)) (λ both. Rewrites format (packet_of both))
    (λ both m. packet_rewrites bytes (packet_of both) are m) sound

-- what is left where a header was written
pub header_emits : (h : Header) (old new : List ℕ) → new ≡ over old (text h) → Emits h old new
header_emits h old new e = record {
  written = e;
  exact = λ whole. e ∙ over-exact old (text h) (whole ∙ sym (length-text h));
  round_trips = λ payload. round_trips format packet_format (packet h payload);
}
