-- The texts of messages of ICMPv4, and what is read in them.
use Rattle.std.proofs.Common.{◌≡◌, ℕ, ◌+◌, ◌*◌, ◌-◌, ◌≤◌, List, [], ◌∷◌, ◌++◌, length, take, refl, sym, ap, subst}
use Rattle.std.proofs.Common.{◌∙◌, arith}
use Rattle.std.proofs.lemmas.List.{append-nil, take_all}
use Rattle.byteorder.specs.Endian.{big_bytes}
use Rattle.byteorder.specs.Numbers.{big_number-reads_back}
use Rattle.wirebase.specs.Bytes.{part, splice}
use Rattle.wirebase.specs.ByteWriter.{be8, be16, be32, fields}
use Rattle.wirebase.specs.Checks.{Passes}
use Rattle.wirebase.specs.Checksum.{IsGood, sealed}
use Rattle.wirebase.specs.Icmp.{checksum_field}
use Rattle.wirebase.specs.Ipv4.{octets_of}
use Rattle.wirebase.proofs.ChecksumSeals.{IsGood-sealed, length-sealed}
use Rattle.header_wire.specs.declared.icmpv4.AddressMask.{AddressMask}
use Rattle.header_wire.specs.declared.icmpv4.Kind.{Kind}
use Rattle.header_wire.specs.declared.icmpv4.Timestamp.{Timestamp}
use Rattle.header_wire.specs.Icmpv4.{Value, timestamp, timestamp_reply, mask_request, mask_reply, solicitation}
use Rattle.header_wire.specs.Icmpv4.{kind_number, kind_in, text, text_len, kind_checks, IsTimestamp, IsAddressMask}
use Rattle.header_wire.specs.Icmpv4.{IsContent, IsMessage, TimesFit, MaskFits, IsCanonical, packet_text, Advert}
use Rattle.header_wire.specs.Icmpv4.{extended_request, extended_reply, advertisement, AdvertFits}
use Rattle.header_wire.specs.ExtendedEcho.{Request}
use Rattle.header_wire.specs.declared.extended_echo.ExtendedEchoReply.{ExtendedEchoReply}
use Rattle.header_wire.proofs.ExtendedEchoes.{request_rest, reply_rest, request-text, request_read, reply_read}

-- ---- the texts, a and b the bytes of the checksum

abbrev timestamp_shape : Kind → Timestamp → ℕ → ℕ → List ℕ
timestamp_shape kind t a b =
    kind_number kind ∷ 0 ∷ a ∷ b
    ∷ (big_bytes 2 t.ident ++ (big_bytes 2 t.seq_no
    ++ (big_bytes 4 t.originate ++ (big_bytes 4 t.receive ++ (big_bytes 4 t.transmit ++ [])))))

abbrev mask_shape : Kind → AddressMask → ℕ → ℕ → List ℕ
mask_shape kind m a b =
    kind_number kind ∷ 0 ∷ a ∷ b ∷ (big_bytes 2 m.ident ++ (big_bytes 2 m.seq_no ++ (octets_of m.mask ++ [])))

abbrev advert_shape : Advert → ℕ → ℕ → List ℕ
advert_shape v a b =
    kind_number Kind.RouterAdvertisement ∷ 0 ∷ a ∷ b ∷ v.count ∷ v.words ∷ (big_bytes 2 v.lifetime ++ v.entries)

abbrev request_shape : Request → ℕ → ℕ → List ℕ
request_shape r a b = kind_number Kind.ExtendedEchoRequest ∷ 0 ∷ a ∷ b ∷ request_rest r

abbrev reply_shape : ExtendedEchoReply → ℕ → ℕ → List ℕ
reply_shape r a b = kind_number Kind.ExtendedEchoReply ∷ r.code ∷ a ∷ b ∷ reply_rest r

abbrev shape : Value → ℕ → ℕ → List ℕ
shape (timestamp t) a b = timestamp_shape Kind.Timestamp t a b
shape (timestamp_reply t) a b = timestamp_shape Kind.TimestampReply t a b
shape (mask_request m) a b = mask_shape Kind.AddressMaskRequest m a b
shape (mask_reply m) a b = mask_shape Kind.AddressMaskReply m a b
shape solicitation a b = kind_number Kind.RouterSolicitation ∷ 0 ∷ a ∷ b ∷ 0 ∷ 0 ∷ 0 ∷ 0 ∷ []
shape (advertisement v) a b = advert_shape v a b
shape (extended_request r) a b = request_shape r a b
shape (extended_reply r) a b = reply_shape r a b

text-shape : (v : Value) → text v ≡ shape v 0 0
unfolding fields be8 be16 be32
text-shape (timestamp t) = refl
text-shape (timestamp_reply t) = refl
text-shape (mask_request m) = refl
text-shape (mask_reply m) = refl
text-shape solicitation = refl
text-shape (advertisement v) =
    ap
    (λ (l : List ℕ). kind_number Kind.RouterAdvertisement ∷ 0 ∷ 0 ∷ 0 ∷ v.count ∷ v.words
    ∷ (big_bytes 2 v.lifetime ++ l))
    (append-nil v.entries)
text-shape (extended_request r) =
    ap (λ (l : List ℕ). kind_number Kind.ExtendedEchoRequest ∷ 0 ∷ 0 ∷ 0 ∷ l) (request-text r)
text-shape (extended_reply r) = refl

shape-sealed : (v : Value) → (a : ℕ) × (b : ℕ) × (sealed checksum_field (shape v 0 0) 0 ≡ shape v a b)
unfolding sealed splice
shape-sealed (timestamp t) = (_, _, refl)
shape-sealed (timestamp_reply t) = (_, _, refl)
shape-sealed (mask_request m) = (_, _, refl)
shape-sealed (mask_reply m) = (_, _, refl)
shape-sealed solicitation = (_, _, refl)
shape-sealed (advertisement v) = (_, _, refl)
shape-sealed (extended_request r) = (_, _, refl)
shape-sealed (extended_reply r) = (_, _, refl)

length-shape : (v : Value) (a b : ℕ) → length (shape v a b) ≡ text_len v
length-shape (timestamp t) a b = refl
length-shape (timestamp_reply t) a b = refl
length-shape (mask_request m) a b = refl
length-shape (mask_reply m) a b = refl
length-shape solicitation a b = refl
length-shape (advertisement v) a b = omega arith
length-shape (extended_request r) a b = omega arith
length-shape (extended_reply r) a b = refl

pub length-text : (v : Value) → length (text v) ≡ text_len v
length-text v = ap (λ (l : List ℕ). length l) (text-shape v) ∙ length-shape v 0 0

text_some : (v : Value) → 8 ≤ text_len v
text_some (timestamp t) = omega arith
text_some (timestamp_reply t) = omega arith
text_some (mask_request m) = omega arith
text_some (mask_reply m) = omega arith
text_some solicitation = omega arith
text_some (advertisement v) = omega arith
text_some (extended_request r) = omega arith
text_some (extended_reply r) = omega arith

-- ---- reading what was written

-- what bytes with a good checksum say
record Says (bytes : List ℕ) (v : Value) : Type 0 where
  passes : Passes (kind_checks bytes (kind_in bytes))
  content : IsContent bytes v

times_read : (kind : Kind) (t : Timestamp) (a b : ℕ) → TimesFit t → IsTimestamp (timestamp_shape kind t a b) t
unfolding part
times_read kind t a b (one, two, three, four, five) = record {
  ident = sym (big_number-reads_back 2 t.ident [] (omega (arith, one)));
  seq_no = sym (big_number-reads_back 2 t.seq_no [] (omega (arith, two)));
  originate = sym (big_number-reads_back 4 t.originate [] (omega (arith, three)));
  receive = sym (big_number-reads_back 4 t.receive [] (omega (arith, four)));
  transmit = sym (big_number-reads_back 4 t.transmit [] (omega (arith, five)));
}

mask_read : (kind : Kind) (m : AddressMask) (a b : ℕ) → MaskFits m → IsAddressMask (mask_shape kind m a b) m
unfolding part
mask_read kind m a b (one, two) = record {
  ident = sym (big_number-reads_back 2 m.ident [] (omega (arith, one)));
  seq_no = sym (big_number-reads_back 2 m.seq_no [] (omega (arith, two)));
  mask = refl;
}

advert_says : (v : Advert) (a b : ℕ) → AdvertFits v → Says (advert_shape v a b) (advertisement v)
unfolding part
advert_says v a b c =
    let bytes : List ℕ = advert_shape v a b in
    let long : length bytes ≡ 8 + length v.entries = omega arith in
    let wide : 8 + 4 * (v.words * v.count) - 8 ≡ length v.entries = omega (arith, c.entries) in
    record {
      passes = (refl, (c.some, (c.two, (omega (arith, long, c.entries), tt))));
      content = (
        refl,
        record {
          count = refl;
          words = refl;
          lifetime = sym (big_number-reads_back 2 v.lifetime [] (omega (arith, c.lifetime)));
          entries =
              sym (ap (λ (n : ℕ). take n v.entries) wide ∙ take_all (length v.entries) v.entries (omega arith));
        },
      );
    }

says : (v : Value) (a b : ℕ) → IsCanonical v → Says (shape v a b) v
says (timestamp t) a b c = record {
  passes = (refl, (omega arith, tt));
  content = (refl, times_read Kind.Timestamp t a b c);
}
says (timestamp_reply t) a b c = record {
  passes = (refl, (omega arith, tt));
  content = (refl, times_read Kind.TimestampReply t a b c);
}
says (mask_request m) a b c = record {
  passes = (refl, (omega arith, tt));
  content = (refl, mask_read Kind.AddressMaskRequest m a b c);
}
says (mask_reply m) a b c = record {
  passes = (refl, (omega arith, tt));
  content = (refl, mask_read Kind.AddressMaskReply m a b c);
}
says solicitation a b c = record { passes = (refl, (omega arith, tt)); content = refl }
says (advertisement v) a b c = advert_says v a b c
says (extended_request r) a b c = record {
  passes = tt;
  content = (refl, request_read r (kind_number Kind.ExtendedEchoRequest) 0 a b c);
}
says (extended_reply r) a b c = record {
  passes = tt;
  content = (refl, reply_read r (kind_number Kind.ExtendedEchoReply) a b c);
}

pub message_read : (v : Value) → IsCanonical v → IsMessage (packet_text v) v
message_read v c =
    let bytes : List ℕ = packet_text v in
    let some : 8 ≤ length (text v) = omega (arith, length-text v, text_some v) in
    let long : length bytes ≡ length (text v) = length-sealed checksum_field (text v) 0 refl (omega (arith, some)) in
    let good : IsGood bytes 0 = IsGood-sealed checksum_field (text v) 0 refl (omega (arith, some)) refl in
    let laid = shape-sealed v in
    let same : bytes ≡ shape v laid.0 laid.1 =
    ap (λ (l : List ℕ). sealed checksum_field l 0) (text-shape v) ∙ laid.2 in
    let said : Says bytes v = subst (λ (l : List ℕ). Says l v) (sym same) (says v laid.0 laid.1 c) in
    record {
      passes = (omega (arith, long, some), (good, said.passes));
      content = said.content;
    }
