-- The format of messages of ICMPv6: what is read in their texts, and what was read.
use Rattle.std.proofs.Common.{◌≡◌, ℕ, ◌<◌, ◌≤◌, ◌^◌, List, [], ◌∷◌, ◌++◌, length, drop, Some, refl, sym}
use Rattle.std.proofs.Common.{ap, subst, ◌∙◌, arith}
use Rattle.std.specs.Prelude.{Result}
use Rattle.std.specs.Result.{IfOk}
use Rattle.std.proofs.lemmas.List.{append-nil}
use Rattle.std.proofs.lemmas.Result.{IfOk-weaker}
use Rattle.byteorder.specs.Endian.{big_bytes}
use Rattle.byteorder.specs.Numbers.{big_number-reads_back, big_from-take, big_from-lt}
use Rattle.wirebase.specs.Bytes.{IsBytes, part, splice, over, number_of}
use Rattle.wirebase.specs.ByteWriter.{be8, be16, fields}
use Rattle.wirebase.specs.Checks.{Passes}
use Rattle.wirebase.specs.Checksum.{IsGood, sealed}
use Rattle.wirebase.specs.Format.{Rewrites}
use Rattle.wirebase.specs.Icmp.{checksum_field}
use Rattle.wirebase.proofs.ByteParts.{IsBytes-drop, number_of-small}
use Rattle.wirebase.proofs.ChecksumSeals.{IsGood-sealed, length-sealed}
use Rattle.wirebase.proofs.Format.{IsFormat, round_trips}
use Rattle.wirebase.proofs.Pieces.{over-exact}
use Rattle.header_wire.specs.declared.icmpv6.Kind.{Kind}
use Rattle.header_wire.specs.declared.icmpv6.Message.{Message}
use Rattle.header_wire.specs.declared.icmpv6.Refusal.{Refusal}
use Rattle.header_wire.specs.Icmpv6.{Value, node_query, node_reply, extended_request, extended_reply, Node, value_of}
use Rattle.header_wire.specs.Icmpv6.{kind_number, kind_in, text, text_len, nonce_field, kind_checks, IsNode, IsContent}
use Rattle.header_wire.specs.Icmpv6.{IsMessage, NodeFits, IsCanonical, packet_text, format, Emits}
use Rattle.header_wire.proofs.ExtendedEchoes.{request_rest, reply_rest, request-text, request_read, reply_read}
use Rattle.header_wire.proofs.ExtendedEchoes.{request-one, reply-one, request_fits, reply_fits}

-- ---- the texts, a and b the bytes of the checksum

abbrev node_shape : Kind → Node → ℕ → ℕ → List ℕ
node_shape kind n a b =
    kind_number kind ∷ n.code ∷ a ∷ b
    ∷ (big_bytes 2 n.qtype ++ (big_bytes 2 n.flags ++ (big_bytes 8 n.nonce ++ n.octets)))

abbrev shape : Value → ℕ → ℕ → List ℕ
shape (node_query n) a b = node_shape Kind.NodeInformationQuery n a b
shape (node_reply n) a b = node_shape Kind.NodeInformationReply n a b
shape (extended_request r) a b = kind_number Kind.ExtendedEchoRequest ∷ 0 ∷ a ∷ b ∷ request_rest r
shape (extended_reply r) a b = kind_number Kind.ExtendedEchoReply ∷ r.code ∷ a ∷ b ∷ reply_rest r

abbrev with_octets : Kind → Node → List ℕ → List ℕ
with_octets kind n octets = node_shape kind (record n { octets = octets }) 0 0

text-shape : (v : Value) → text v ≡ shape v 0 0
unfolding fields be8 be16
text-shape (node_query n) = ap (with_octets Kind.NodeInformationQuery n) (append-nil n.octets)
text-shape (node_reply n) = ap (with_octets Kind.NodeInformationReply n) (append-nil n.octets)
text-shape (extended_request r) =
    ap (λ (l : List ℕ). kind_number Kind.ExtendedEchoRequest ∷ 0 ∷ 0 ∷ 0 ∷ l) (request-text r)
text-shape (extended_reply r) = refl

shape-sealed : (v : Value) (sum : ℕ) → (a : ℕ) × (b : ℕ) × (sealed checksum_field (shape v 0 0) sum ≡ shape v a b)
unfolding sealed splice
shape-sealed (node_query n) sum = (_, _, refl)
shape-sealed (node_reply n) sum = (_, _, refl)
shape-sealed (extended_request r) sum = (_, _, refl)
shape-sealed (extended_reply r) sum = (_, _, refl)

length-shape : (v : Value) (a b : ℕ) → length (shape v a b) ≡ text_len v
length-shape (node_query n) a b = omega arith
length-shape (node_reply n) a b = omega arith
length-shape (extended_request r) a b = omega arith
length-shape (extended_reply r) a b = refl

length-text : (v : Value) → length (text v) ≡ text_len v
length-text v = ap (λ (l : List ℕ). length l) (text-shape v) ∙ length-shape v 0 0

text_some : (v : Value) → 8 ≤ text_len v
text_some (node_query n) = omega arith
text_some (node_reply n) = omega arith
text_some (extended_request r) = omega arith
text_some (extended_reply r) = omega arith

-- ---- reading what was written

-- what bytes with a good checksum say
record Says (bytes : List ℕ) (v : Value) : Type 0 where
  passes : Passes (kind_checks bytes (kind_in bytes))
  content : IsContent bytes v

node_read : (kind : Kind) (n : Node) (a b : ℕ) → NodeFits n → IsNode (node_shape kind n a b) n
unfolding part
node_read kind n a b (code, one, two, three) = record {
  code = refl;
  qtype = sym (big_number-reads_back 2 n.qtype [] (omega (arith, one)));
  flags = sym (big_number-reads_back 2 n.flags [] (omega (arith, two)));
  nonce = sym (big_number-reads_back 8 n.nonce [] (omega (arith, three)));
  octets = refl;
}

says : (v : Value) (a b : ℕ) → IsCanonical v → Says (shape v a b) v
says (node_query n) a b c = record {
  passes = (omega (arith, length-shape (node_query n) a b), tt);
  content = (refl, node_read Kind.NodeInformationQuery n a b c);
}
says (node_reply n) a b c = record {
  passes = (omega (arith, length-shape (node_reply n) a b), tt);
  content = (refl, node_read Kind.NodeInformationReply n a b c);
}
says (extended_request r) a b c = record {
  passes = tt;
  content = (refl, request_read r (kind_number Kind.ExtendedEchoRequest) 0 a b c);
}
says (extended_reply r) a b c = record {
  passes = tt;
  content = (refl, reply_read r (kind_number Kind.ExtendedEchoReply) a b c);
}

message_read : (extra : ℕ → ℕ) (v : Value) → IsCanonical v
    → IsMessage (extra (length (packet_text extra v))) (packet_text extra v) v
message_read extra v c =
    let bytes : List ℕ = packet_text extra v in
    let sum : ℕ = extra (length (text v)) in
    let some : 8 ≤ length (text v) = omega (arith, length-text v, text_some v) in
    let long : length bytes ≡ length (text v) =
    length-sealed checksum_field (text v) sum refl (omega (arith, some)) in
    let good : IsGood bytes sum = IsGood-sealed checksum_field (text v) sum refl (omega (arith, some)) refl in
    let laid = shape-sealed v sum in
    let same : bytes ≡ shape v laid.0 laid.1 =
    ap (λ (l : List ℕ). sealed checksum_field l sum) (text-shape v) ∙ laid.2 in
    let said : Says bytes v = subst (λ (l : List ℕ). Says l v) (sym same) (says v laid.0 laid.1 c) in
    record {
      passes = (
        omega (arith, long, some),
        (subst (λ (n : ℕ). IsGood bytes (extra n)) (sym long) good, said.passes),
      );
      content = said.content;
    }

-- ---- what was read

abbrev a_node : ℕ → ℕ → ℕ → ℕ → List ℕ → Node
a_node code qtype flags nonce octets =
    record { code = code; qtype = qtype; flags = flags; nonce = nonce; octets = octets }

node-one : (bytes : List ℕ) (n m : Node) → IsNode bytes n → IsNode bytes m → n ≡ m
node-one bytes n m a b =
    let one = a.code ∙ sym b.code in
    let two = a.qtype ∙ sym b.qtype in
    let three = a.flags ∙ sym b.flags in
    let four = a.nonce ∙ sym b.nonce in
    let five = a.octets ∙ sym b.octets in
    let same : a_node n.code n.qtype n.flags n.nonce n.octets ≡ a_node m.code m.qtype m.flags m.nonce m.octets =
    rw (one, two, three, four, five) refl in
    same

kind_of_value : Value → Kind
kind_of_value (node_query n) = Kind.NodeInformationQuery
kind_of_value (node_reply n) = Kind.NodeInformationReply
kind_of_value (extended_request r) = Kind.ExtendedEchoRequest
kind_of_value (extended_reply r) = Kind.ExtendedEchoReply

content-kind : (bytes : List ℕ) (v : Value) → IsContent bytes v → kind_in bytes ≡ Some (kind_of_value v)
unfolding kind_of_value
content-kind bytes (node_query n) m = m.0
content-kind bytes (node_reply n) m = m.0
content-kind bytes (extended_request r) m = m.0
content-kind bytes (extended_reply r) m = m.0

content-one : (bytes : List ℕ) (v w : Value) → IsContent bytes v → IsContent bytes w → v ≡ w
unfolding kind_of_value
content-one bytes (node_query n) (node_query m) a b = ap node_query (node-one bytes n m a.1 b.1)
content-one bytes (node_reply n) (node_reply m) a b = ap node_reply (node-one bytes n m a.1 b.1)
content-one bytes (extended_request r) (extended_request s) a b = ap extended_request (request-one bytes r s a.1 b.1)
content-one bytes (extended_reply r) (extended_reply s) a b = ap extended_reply (reply-one bytes r s a.1 b.1)
content-one bytes v w a b =
    let one = content-kind bytes v a in
    let two = content-kind bytes w b in
    absurd cc

-- a field of eight bytes is below 2 ^ 64
nonce_small : (bytes : List ℕ) → IsBytes bytes → number_of nonce_field bytes < 2 ^ 64
unfolding part
nonce_small bytes are =
    omega (
      arith,
      big_from-take 0 8 8 (drop 8 bytes) (omega arith),
      big_from-lt 0 8 (drop 8 bytes) (IsBytes-drop 8 bytes are),
    )

node_fits : (bytes : List ℕ) (n : Node) → IsBytes bytes → IsNode bytes n → NodeFits n
node_fits bytes n are is = (
  omega (arith, is.code, are 1),
  omega (arith, is.qtype, number_of-small 4 6 bytes refl are),
  omega (arith, is.flags, number_of-small 6 8 bytes refl are),
  omega (arith, is.nonce, nonce_small bytes are),
)

accepted : (extra : ℕ) (bytes : List ℕ) (v : Value) → IsBytes bytes → IsMessage extra bytes v → IsCanonical v
accepted extra bytes (node_query n) are m = node_fits bytes n are m.content.1
accepted extra bytes (node_reply n) are m = node_fits bytes n are m.content.1
accepted extra bytes (extended_request r) are m = request_fits bytes r are m.content.1
accepted extra bytes (extended_reply r) are m = reply_fits bytes r are m.content.1

-- ---- the format

pub message_format : (extra : ℕ → ℕ) → IsFormat (format extra)
message_format extra = record {
  one_value = λ bytes v w a b. content-one bytes v w a.content b.content;
  reads_back = λ v fills c. message_read extra v c;
  norm_canonical = λ v c. c;
  norm_norm = λ v. refl;
  norm_text = λ v c regular. refl;
  accepted = λ bytes v are few m. accepted (extra (length bytes)) bytes v are m;
  regular = λ bytes v m e. e;
  kept = λ bytes v are c m uncut. refl;
}

-- what was read can be written, whatever its length
message_rewrites : (extra : ℕ → ℕ) (sum : ℕ) (bytes : List ℕ) (v : Value) → IsBytes bytes → IsMessage sum bytes v
    → Rewrites (format extra) v
message_rewrites extra sum bytes v are m =
    let canonical = accepted sum bytes v are m in
    record {
      canonical = canonical;
      regular = λ e. e;
      reads_back = λ fills. message_read extra v canonical;
      same_text = refl;
      same_value = λ uncut. refl;
    }

pub all_rewrite : (extra : ℕ → ℕ) (sum : ℕ) (bytes : List ℕ) (result : Result Message Refusal) → IsBytes bytes
    → IfOk result (λ message. IsMessage sum bytes (value_of message))
    → IfOk result (λ message. Rewrites (format extra) (value_of message))
all_rewrite extra sum bytes result are sound =
    IfOk-weaker result (λ message. IsMessage sum bytes (value_of message))
    (λ message. Rewrites (format extra) (value_of message))
    (λ message m. message_rewrites extra sum bytes (value_of message) are m) sound

-- what is left where a message was written
pub message_emits : (extra : ℕ → ℕ) (sum : ℕ) (v : Value) (old left new : List ℕ) → sum ≡ extra (length old)
    → left ≡ over old (text v) → new ≡ sealed checksum_field left sum → IsGood new sum → Emits extra v old new
message_emits extra sum v old left new told e f good =
    let all = f ∙ ap (λ (l : List ℕ). sealed checksum_field l sum) e
    ∙ ap (λ (n : ℕ). sealed checksum_field (over old (text v)) n) told in
    record {
      written = all;
      good = subst (λ (n : ℕ). IsGood new n) told good;
      exact = λ long.
          let same = long ∙ sym (length-text v) in
          all
          ∙ ap (λ (l : List ℕ). sealed checksum_field l (extra (length old))) (over-exact old (text v) same)
          ∙ ap (λ (n : ℕ). sealed checksum_field (text v) (extra n)) same;
      round_trips = round_trips (format extra) (message_format extra) v;
    }
