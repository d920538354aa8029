-- The format of messages of ICMPv4: what is read in their texts, and what was read.
use Rattle.std.proofs.Common.{◌≡◌, ℕ, ◌+◌, ◌*◌, List, length, Option, Some, refl, sym}
use Rattle.std.proofs.Common.{ap, subst, ◌∙◌, arith}
use Rattle.std.specs.Prelude.{Result}
use Rattle.std.specs.Result.{IfOk}
use Rattle.std.proofs.lemmas.Result.{IfOk-weaker}
use Rattle.wirebase.specs.Bytes.{IsBytes, over}
use Rattle.wirebase.specs.Checks.{Passes}
use Rattle.wirebase.specs.Checksum.{IsGood, sealed}
use Rattle.wirebase.specs.Format.{Rewrites}
use Rattle.wirebase.specs.Icmp.{checksum_field}
use Rattle.wirebase.proofs.ByteParts.{number_of-small}
use Rattle.wirebase.proofs.Format.{IsFormat, round_trips}
use Rattle.wirebase.proofs.Ipv4Header.{same_address}
use Rattle.wirebase.proofs.Pieces.{length-part, over-exact}
use Rattle.wirebase.proofs.WideParts.{number_of-small4}
use Rattle.wirebase.specs.declared.ipv4.Ipv4Address.{Ipv4Address}
use Rattle.header_wire.specs.declared.icmpv4.AddressMask.{AddressMask}
use Rattle.header_wire.specs.declared.icmpv4.Kind.{Kind}
use Rattle.header_wire.specs.declared.icmpv4.Message.{Message}
use Rattle.header_wire.specs.declared.icmpv4.Refusal.{Refusal}
use Rattle.header_wire.specs.declared.icmpv4.Timestamp.{Timestamp}
use Rattle.header_wire.specs.Icmpv4.{Value, timestamp, timestamp_reply, mask_request, mask_reply, solicitation}
use Rattle.header_wire.specs.Icmpv4.{value_of, kind_in, text, kind_checks, IsTimestamp, IsAddressMask, IsContent}
use Rattle.header_wire.specs.Icmpv4.{IsMessage, TimesFit, MaskFits, IsCanonical, format, Emits, Advert, advertisement}
use Rattle.header_wire.specs.Icmpv4.{extended_request, extended_reply, count_of, words_of, entries_len, advert_checks}
use Rattle.header_wire.specs.Icmpv4.{IsAdvertisement, AdvertFits}
use Rattle.header_wire.proofs.ExtendedEchoes.{request-one, reply-one, request_fits, reply_fits}
use Rattle.header_wire.proofs.MessageTexts.{length-text, message_read}

-- ---- what was read

abbrev times : ℕ → ℕ → ℕ → ℕ → ℕ → Timestamp
times ident seq_no originate receive transmit =
    record { ident = ident; seq_no = seq_no; originate = originate; receive = receive; transmit = transmit }

times-one : (bytes : List ℕ) (t u : Timestamp) → IsTimestamp bytes t → IsTimestamp bytes u → t ≡ u
times-one bytes t u a b =
    let one = a.ident ∙ sym b.ident in
    let two = a.seq_no ∙ sym b.seq_no in
    let three = a.originate ∙ sym b.originate in
    let four = a.receive ∙ sym b.receive in
    let five = a.transmit ∙ sym b.transmit in
    let same : times t.ident t.seq_no t.originate t.receive t.transmit
    ≡ times u.ident u.seq_no u.originate u.receive u.transmit = rw (one, two, three, four, five) refl in
    same

abbrev mask_of : ℕ → ℕ → Ipv4Address → AddressMask
mask_of ident seq_no mask = record { ident = ident; seq_no = seq_no; mask = mask }

mask-one : (bytes : List ℕ) (m n : AddressMask) → IsAddressMask bytes m → IsAddressMask bytes n → m ≡ n
mask-one bytes m n a b =
    let one = a.ident ∙ sym b.ident in
    let two = a.seq_no ∙ sym b.seq_no in
    let three = same_address m.mask n.mask (a.mask ∙ sym b.mask) in
    let same : mask_of m.ident m.seq_no m.mask ≡ mask_of n.ident n.seq_no n.mask = rw (one, two, three) refl in
    same

abbrev an_advert : ℕ → ℕ → ℕ → List ℕ → Advert
an_advert count words lifetime entries =
    record { count = count; words = words; lifetime = lifetime; entries = entries }

advert-one : (bytes : List ℕ) (v w : Advert) → IsAdvertisement bytes v → IsAdvertisement bytes w → v ≡ w
advert-one bytes v w a b =
    let one = a.count ∙ sym b.count in
    let two = a.words ∙ sym b.words in
    let three = a.lifetime ∙ sym b.lifetime in
    let four = a.entries ∙ sym b.entries in
    let same : an_advert v.count v.words v.lifetime v.entries ≡ an_advert w.count w.words w.lifetime w.entries =
    rw (one, two, three, four) refl in
    same

kind_of_value : Value → Kind
kind_of_value (timestamp t) = Kind.Timestamp
kind_of_value (timestamp_reply t) = Kind.TimestampReply
kind_of_value (mask_request m) = Kind.AddressMaskRequest
kind_of_value (mask_reply m) = Kind.AddressMaskReply
kind_of_value solicitation = Kind.RouterSolicitation
kind_of_value (advertisement v) = Kind.RouterAdvertisement
kind_of_value (extended_request r) = Kind.ExtendedEchoRequest
kind_of_value (extended_reply r) = Kind.ExtendedEchoReply

content-kind : (bytes : List ℕ) (v : Value) → IsContent bytes v → kind_in bytes ≡ Some (kind_of_value v)
unfolding kind_of_value
content-kind bytes (timestamp t) m = m.0
content-kind bytes (timestamp_reply t) m = m.0
content-kind bytes (mask_request n) m = m.0
content-kind bytes (mask_reply n) m = m.0
content-kind bytes solicitation m = m
content-kind bytes (advertisement v) m = m.0
content-kind bytes (extended_request r) m = m.0
content-kind bytes (extended_reply r) m = m.0

content-one : (bytes : List ℕ) (v w : Value) → IsContent bytes v → IsContent bytes w → v ≡ w
unfolding kind_of_value
content-one bytes (timestamp t) (timestamp u) a b = ap timestamp (times-one bytes t u a.1 b.1)
content-one bytes (timestamp_reply t) (timestamp_reply u) a b = ap timestamp_reply (times-one bytes t u a.1 b.1)
content-one bytes (mask_request m) (mask_request n) a b = ap mask_request (mask-one bytes m n a.1 b.1)
content-one bytes (mask_reply m) (mask_reply n) a b = ap mask_reply (mask-one bytes m n a.1 b.1)
content-one bytes solicitation solicitation a b = refl
content-one bytes (advertisement v) (advertisement w) a b = ap advertisement (advert-one bytes v w a.1 b.1)
content-one bytes (extended_request r) (extended_request s) a b = ap extended_request (request-one bytes r s a.1 b.1)
content-one bytes (extended_reply r) (extended_reply s) a b = ap extended_reply (reply-one bytes r s a.1 b.1)
content-one bytes v w a b =
    let one = content-kind bytes v a in
    let two = content-kind bytes w b in
    absurd cc

times_fit : (bytes : List ℕ) (t : Timestamp) → IsBytes bytes → IsTimestamp bytes t → TimesFit t
times_fit bytes t are m = (
  omega (arith, m.ident, number_of-small 4 6 bytes refl are),
  omega (arith, m.seq_no, number_of-small 6 8 bytes refl are),
  omega (arith, m.originate, number_of-small4 8 12 bytes refl are),
  omega (arith, m.receive, number_of-small4 12 16 bytes refl are),
  omega (arith, m.transmit, number_of-small4 16 20 bytes refl are),
)

mask_fits : (bytes : List ℕ) (m : AddressMask) → IsBytes bytes → IsAddressMask bytes m → MaskFits m
mask_fits bytes m are is = (
  omega (arith, is.ident, number_of-small 4 6 bytes refl are),
  omega (arith, is.seq_no, number_of-small 6 8 bytes refl are),
)

-- the checks of what has a kind
passes_of : (bytes : List ℕ) (v : Value) → IsMessage bytes v → Passes (kind_checks bytes (Some (kind_of_value v)))
passes_of bytes v m =
    subst (λ (k : Option Kind). Passes (kind_checks bytes k)) (content-kind bytes v m.content) m.passes.1.1

advert_fits : (bytes : List ℕ) (v : Advert) → IsBytes bytes → Passes (advert_checks bytes) → IsAdvertisement bytes v
    → AdvertFits v
advert_fits bytes v are passes is =
    let end : ℕ = 8 + entries_len bytes in
    let long : length v.entries ≡ entries_len bytes =
    omega (
      arith,
      ap (λ (l : List ℕ). length l) is.entries,
      length-part bytes 8 end (omega arith) passes.1.1.1.0,
    ) in
    let same : 4 * (words_of bytes * count_of bytes) ≡ 4 * (v.words * v.count) =
    ap (λ (n : ℕ). 4 * (n * count_of bytes)) (sym is.words) ∙ ap (λ (n : ℕ). 4 * (v.words * n)) (sym is.count) in
    record {
      some = omega (arith, is.count, passes.1.0);
      count = omega (arith, is.count, are 4);
      two = omega (arith, is.words, passes.1.1.0);
      words = omega (arith, is.words, are 5);
      lifetime = omega (arith, is.lifetime, number_of-small 6 8 bytes refl are);
      entries = long ∙ same;
    }

accepted : (bytes : List ℕ) (v : Value) → IsBytes bytes → IsMessage bytes v → IsCanonical v
unfolding kind_of_value
accepted bytes (timestamp t) are m = times_fit bytes t are m.content.1
accepted bytes (timestamp_reply t) are m = times_fit bytes t are m.content.1
accepted bytes (mask_request n) are m = mask_fits bytes n are m.content.1
accepted bytes (mask_reply n) are m = mask_fits bytes n are m.content.1
accepted bytes solicitation are m = tt
accepted bytes (advertisement v) are m =
    advert_fits bytes v are (passes_of bytes (advertisement v) m) m.content.1
accepted bytes (extended_request r) are m = request_fits bytes r are m.content.1
accepted bytes (extended_reply r) are m = reply_fits bytes r are m.content.1

-- ---- the format

pub message_format : IsFormat format
message_format = record {
  one_value = λ bytes v w a b. content-one bytes v w a.content b.content;
  reads_back = λ v fills c. message_read v c;
  norm_canonical = λ v c. c;
  norm_norm = λ v. refl;
  norm_text = λ v c regular. refl;
  accepted = λ bytes v are few m. accepted bytes v are m;
  regular = λ bytes v m e. e;
  kept = λ bytes v are c m uncut. refl;
}

-- what was read can be written, whatever its length
message_rewrites : (bytes : List ℕ) (v : Value) → IsBytes bytes → IsMessage bytes v → Rewrites format v
message_rewrites bytes v are m = record {
  canonical = accepted bytes v are m;
  regular = λ e. e;
  reads_back = λ fills. message_read v (accepted bytes v are m);
  same_text = refl;
  same_value = λ uncut. refl;
}

pub all_rewrite : (bytes : List ℕ) (result : Result Message Refusal) → IsBytes bytes
    → IfOk result (λ message. IsMessage bytes (value_of message))
    → IfOk result (λ message. Rewrites format (value_of message))
all_rewrite bytes result are sound =
    IfOk-weaker result (λ message. IsMessage bytes (value_of message)) (λ message. Rewrites format (value_of message))
    (λ message m. message_rewrites bytes (value_of message) are m) sound

-- what is left where a message was written
pub message_emits : (v : Value) (old left new : List ℕ) → left ≡ over old (text v) → new ≡ sealed checksum_field left 0
    → IsGood new 0 → Emits v old new
message_emits v old left new e f good =
    let all = f ∙ ap (λ (l : List ℕ). sealed checksum_field l 0) e in
    record {
      written = all;
      good = good;
      exact = λ long.
          all
          ∙ ap (λ (l : List ℕ). sealed checksum_field l 0)
          (over-exact old (text v) (long ∙ sym (length-text v)));
      round_trips = round_trips format message_format v;
    }
