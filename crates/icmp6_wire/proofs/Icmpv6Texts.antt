-- The texts of ICMPv6 messages: their lengths, and what is read in them.
use Rattle.std.proofs.Common.{◌≡◌, ℕ, ◌<◌, ◌≤◌, ◌^◌, min, true, List, [], ◌∷◌, ◌++◌, length, take, drop}
use Rattle.std.proofs.Common.{refl, sym, ap, subst, ◌∙◌, arith, length-append}
use Rattle.std.proofs.lemmas.List.{append-nil, length-take, take_all, take_min}
use Rattle.byteorder.specs.Endian.{big_bytes}
use Rattle.byteorder.specs.Numbers.{big_number-reads_back}
use Rattle.icmp6_wire.specs.Words.{part, byte_of, number_of, be8, be16, be32, fields, code_field, checksum_field}
use Rattle.icmp6_wire.specs.Words.{IsEcho, echo_fields, header_text, IsProper, IsGood, ChecksumCapabilities}
use Rattle.icmp6_wire.specs.Words.{Ipv6Address, Ipv6Repr, DstUnreachable, Message, ParamProblem, TimeExceeded, Check}
use Rattle.icmp6_wire.specs.Words.{Passes, type_field, is_verified}
use Rattle.wirebase.proofs.CapabilitySeals.{length-sealed_where, IsGood-sealed_where}
use Rattle.wirebase.proofs.IcmpTexts.{echo_text, header_sealed, echo_read}
use Rattle.wirebase.proofs.Ipv6Header.{length-header_text, header-read, drop-header_text}
use Rattle.wirebase.proofs.Numbered.{case_in-unnamed}
use Rattle.icmp6_wire.specs.Icmpv6Packet.{word_field, message_in, message_sum}
use Rattle.icmp6_wire.specs.Icmpv6Tables.{unreachable_number, unreachable_rows, unreachable_of, param_problem_number}
use Rattle.icmp6_wire.specs.Icmpv6Tables.{param_problem_rows, param_problem_of, time_exceeded_number}
use Rattle.icmp6_wire.specs.Icmpv6Tables.{time_exceeded_rows, time_exceeded_of, message_of}
use Rattle.icmp6_wire.specs.Icmpv6.{MessageValue, unreachable, too_big, time_exceeded, param_problem, echo_request}
use Rattle.icmp6_wire.specs.Icmpv6.{echo_reply, mld, ndisc, quoted_data, error_fields, text, error_len, text_len, seal}
use Rattle.icmp6_wire.specs.Icmpv6.{packet_text, CanEmit, IsError, IsContent, IsMessage, CanQuote, IsCanonical}
use Rattle.icmp6_wire.specs.Icmpv6.{Fills, norm, type_checks}
use Rattle.icmp6_wire.specs.declared.icmpv6.refusal.Refusal.{Refusal}
use Rattle.icmp6_wire.proofs.Icmpv6Grammar.{whole-content, code_checks}
use Rattle.icmp6_wire.proofs.Icmpv6Seals.{Begins, sealed-begins}
use Rattle.icmp6_wire.specs.Mld as listeners
use Rattle.icmp6_wire.specs.Mld.{MldValue}
use Rattle.icmp6_wire.proofs.MldFormat.{type_of, message_read, text-begins, message-unsealed}
use Rattle.icmp6_wire.proofs.MldTexts.{length-text as length-mld, text_some as mld_some}
use Rattle.icmp6_wire.specs.Ndisc as neighbors
use Rattle.icmp6_wire.specs.Ndisc.{NdiscValue}
use Rattle.icmp6_wire.proofs.NdiscReading.{kind_of as ndisc_kind, body, text_at, begun_read}
use Rattle.icmp6_wire.proofs.NdiscTexts.{length-text as length-ndisc, text_some as ndisc_some}
use Rattle.icmp6_wire.proofs.NdiscTiling.{kind_read}

-- ---- what an error quotes

pub length-quoted : (d : List ℕ) → length (quoted_data d) ≡ min (length d) 1192
unfolding quoted_data
length-quoted d = omega (arith, length-take {A = ℕ} 1192 d)

-- as much as is quoted, counted
pub take-quoted : (d : List ℕ) (n : ℕ) → n ≡ min (length d) 1192 → take n d ≡ quoted_data d
unfolding quoted_data
take-quoted d n e = let turned : n ≡ min 1192 (length d) = omega (arith, e) in
    ap (λ (k : ℕ). take k d) turned ∙ take_min 1192 d

pub quoted-quoted : (d : List ℕ) → quoted_data (quoted_data d) ≡ quoted_data d
unfolding quoted_data
quoted-quoted d = take_all 1192 (take 1192 d) (omega (arith, length-take {A = ℕ} 1192 d))

pub quoted-whole : (d : List ℕ) → length d ≤ 1192 → quoted_data d ≡ d
unfolding quoted_data
quoted-whole d few = take_all 1192 d few

pub ruleset cuts = (length-quoted, take-quoted)

-- ---- the text, and its length

error_text : (t code word : ℕ) (quoted : Ipv6Repr) (d : List ℕ)
    → fields (error_fields t code word quoted d) ≡ t ∷ code ∷ 0 ∷ 0
    ∷ (big_bytes 4 word ++ (header_text quoted ++ quoted_data d))
unfolding fields be8 be16 be32
error_text t code word quoted d = simp append-nil

length-error : (t code word : ℕ) (quoted : Ipv6Repr) (d : List ℕ)
    → length (fields (error_fields t code word quoted d)) ≡ error_len d
length-error t code word quoted d =
    omega (
      arith,
      ap length (error_text t code word quoted d),
      length-append (header_text quoted) (quoted_data d),
      length-header_text quoted,
      length-quoted d,
    )

pub length-text : (v : MessageValue) → length (text v) ≡ text_len v
length-text (unreachable reason quoted d) = length-error 1 (unreachable_number reason) 0 quoted d
length-text (too_big mtu quoted d) = length-error 2 0 mtu quoted d
length-text (time_exceeded reason quoted d) = length-error 3 (time_exceeded_number reason) 0 quoted d
length-text (param_problem reason pointer quoted d) = length-error 4 (param_problem_number reason) pointer quoted d
length-text (echo_request ident seq_no d) = omega (arith, ap length (echo_text 0x80 ident seq_no d))
length-text (echo_reply ident seq_no d) = omega (arith, ap length (echo_text 0x81 ident seq_no d))
length-text (ndisc m) = length-ndisc m
length-text (mld m) = length-mld m

pub text_some : (v : MessageValue) → 8 ≤ text_len v
text_some (ndisc m) = ndisc_some m
text_some (mld m) = mld_some m
text_some _ = omega arith

-- the octets that a message is written into have room for a header
pub room_some : (v : MessageValue) (bytes : List ℕ) → CanEmit v bytes → 8 ≤ length bytes
room_some (echo_request ident seq_no d) bytes c = c
room_some (echo_reply ident seq_no d) bytes c = c
room_some (ndisc m) bytes c = omega (arith, ndisc_some m, c.1)
room_some (mld (listeners.query code group flag qrv qqic sources d)) bytes c = omega (arith, c.0)
room_some (mld (listeners.report count d)) bytes c = omega (arith, c)
room_some (mld (listeners.records rs)) bytes c = omega (arith, c.0)
room_some _ bytes c = omega (arith, c.0)

pub length-packet_text : (capabilities : ChecksumCapabilities) (source destination : Ipv6Address) (v : MessageValue)
    → length (packet_text capabilities source destination v) ≡ text_len v
length-packet_text capabilities source destination v =
    length-sealed_where checksum_field (text v) (message_sum source destination (length (text v))) refl
    (omega (arith, length-text v, text_some v)) capabilities.icmpv6 ∙ length-text v

pub ruleset texts = (length-text, length-packet_text)

-- ---- reading what was written

unreachable_of-number : (reason : DstUnreachable) → IsProper DstUnreachable.Unknown unreachable_rows reason
    → reason ≡ unreachable_of (unreachable_number reason)
unreachable_of-number (DstUnreachable.Unknown n) p =
    sym (case_in-unnamed DstUnreachable.Unknown unreachable_rows n (p n refl))
unreachable_of-number _ p = refl

time_exceeded_of-number : (reason : TimeExceeded) → IsProper TimeExceeded.Unknown time_exceeded_rows reason
    → reason ≡ time_exceeded_of (time_exceeded_number reason)
time_exceeded_of-number (TimeExceeded.Unknown n) p =
    sym (case_in-unnamed TimeExceeded.Unknown time_exceeded_rows n (p n refl))
time_exceeded_of-number _ p = refl

param_problem_of-number : (reason : ParamProblem) → IsProper ParamProblem.Unknown param_problem_rows reason
    → reason ≡ param_problem_of (param_problem_number reason)
param_problem_of-number (ParamProblem.Unknown n) p =
    sym (case_in-unnamed ParamProblem.Unknown param_problem_rows n (p n refl))
param_problem_of-number _ p = refl

-- what is read in the bytes of an error
record ReadsError (bytes : List ℕ) (t code word : ℕ) (quoted : Ipv6Repr) (d : List ℕ) : Type 0 where
  pub error : IsError t bytes quoted d
  pub room : 48 ≤ length bytes
  pub code_is : byte_of code_field bytes ≡ code
  pub word_is : word ≡ number_of word_field bytes

error_read : (bytes : List ℕ) (t code word : ℕ) (quoted : Ipv6Repr) (d : List ℕ) → CanQuote quoted → word < 2 ^ 32
    → Begins bytes t code (big_bytes 4 word ++ (header_text quoted ++ d)) → ReadsError bytes t code word quoted d
unfolding part
error_read bytes t code word quoted d c small b = rw b.whole (record {
  error = record {
    kind = refl;
    header = header-read quoted d c.3 c.0;
    data_is = sym (drop-header_text quoted d);
  };
  room = omega (arith, length-append (header_text quoted) d, length-header_text quoted);
  code_is = refl;
  word_is = sym (big_number-reads_back 4 word [] (omega (arith, small)));
})

-- the checks by the type, in bytes of a known type
type_passes : (t : ℕ) (bytes : List ℕ) → byte_of type_field bytes ≡ t → Passes (type_checks (message_of t) bytes)
    → Passes (type_checks (message_in bytes) bytes)
type_passes t bytes kind passes =
    subst (λ (m : Message). Passes (type_checks m bytes)) (sym (ap message_of kind)) passes

code_begun : {bytes : List ℕ} {t : ℕ} {rest : List ℕ} → Begins bytes t 0 rest → 128 ≤ t
    → Passes (type_checks (message_in bytes) bytes)
code_begun {bytes = bytes} b other =
    let kind = ap (λ (l : List ℕ). byte_of type_field l) b.whole in
    subst (λ (l : List (Check Refusal)). Passes l)
    (sym (code_checks (message_in bytes) bytes (omega (arith, other, kind, kind_read bytes (message_in bytes) refl))))
    (ap (λ (l : List ℕ). byte_of code_field l) b.whole, tt)

module _ (capabilities : ChecksumCapabilities) (source destination : Ipv6Address) where
  sealed_error : (t code word : ℕ) (quoted : Ipv6Repr) (d : List ℕ) → CanQuote quoted → word < 2 ^ 32
      → ReadsError (seal capabilities source destination (fields (error_fields t code word quoted d)))
      t code word quoted (quoted_data d)
  sealed_error t code word quoted d c small =
      error_read _ t code word quoted (quoted_data d) c small
      (sealed-begins capabilities.icmpv6 _ _ t code _ (error_text t code word quoted d))

  sealed_echo : (t ident seq_no : ℕ) (d : List ℕ) → ident < 2 ^ 16 → seq_no < 2 ^ 16
      → IsEcho t (seal capabilities source destination (fields (echo_fields t ident seq_no d))) ident seq_no d
  sealed_echo t ident seq_no d h k =
      echo_read _ t ident seq_no d h k
      (header_sealed _ capabilities.icmpv6 t 0 ident seq_no d _ (echo_text t ident seq_no d))

  mld_begun : (m : MldValue) → Begins (seal capabilities source destination (listeners.text m)) (type_of m) 0
      (drop 4 (listeners.text m))
  mld_begun m = sealed-begins capabilities.icmpv6 _ _ (type_of m) 0 _ (text-begins m)

  ndisc_begun : (m : NdiscValue) → Begins (seal capabilities source destination (neighbors.text m)) (ndisc_kind m) 0
      (body m)
  ndisc_begun m = sealed-begins capabilities.icmpv6 _ _ (ndisc_kind m) 0 (body m) (text_at m)

  sealed_mld : (m : MldValue) → listeners.IsCanonical m
      → IsContent (seal capabilities source destination (listeners.text m)) (mld (listeners.norm m))
  sealed_mld m c =
      let b = mld_begun m in
      let alone = subst (λ (bytes : List ℕ). listeners.IsMessage bytes (listeners.norm m)) (text-begins m)
      (message_read m c) in
      rw b.whole (message-unsealed (type_of m) 0 0 0 b.first b.second _ (listeners.norm m) alone)

  -- the content, and the checks by the type
  text_read : (v : MessageValue) → IsCanonical v
      → IsContent (packet_text capabilities source destination v) (norm v)
      × Passes (type_checks (message_in (packet_text capabilities source destination v))
      (packet_text capabilities source destination v))
  text_read (unreachable reason quoted d) c =
      let read = sealed_error 1 (unreachable_number reason) 0 quoted d c.2 (omega arith) in
      let is = unreachable_of-number reason c.0 ∙ ap unreachable_of (sym read.code_is) in
      ((read.error, is), type_passes 1 _ read.error.kind (read.room, tt))
  text_read (too_big mtu quoted d) c =
      let read = sealed_error 2 0 mtu quoted d c.1 c.0 in
      ((read.error, read.word_is), type_passes 2 _ read.error.kind (read.room, (read.code_is, tt)))
  text_read (time_exceeded reason quoted d) c =
      let read = sealed_error 3 (time_exceeded_number reason) 0 quoted d c.2 (omega arith) in
      let is = time_exceeded_of-number reason c.0 ∙ ap time_exceeded_of (sym read.code_is) in
      ((read.error, is), type_passes 3 _ read.error.kind (read.room, tt))
  text_read (param_problem reason pointer quoted d) c =
      let read = sealed_error 4 (param_problem_number reason) pointer quoted d c.3 c.2 in
      let is = param_problem_of-number reason c.0 ∙ ap param_problem_of (sym read.code_is) in
      ((read.error, is, read.word_is), type_passes 4 _ read.error.kind (read.room, tt))
  text_read (echo_request ident seq_no d) c =
      let bytes : List ℕ = packet_text capabilities source destination (echo_request ident seq_no d) in
      let read = sealed_echo 0x80 ident seq_no d c.0 c.1 in
      (read, type_passes 0x80 bytes read.kind (read.code, tt))
  text_read (echo_reply ident seq_no d) c =
      let bytes : List ℕ = packet_text capabilities source destination (echo_reply ident seq_no d) in
      let read = sealed_echo 0x81 ident seq_no d c.0 c.1 in
      (read, type_passes 0x81 bytes read.kind (read.code, tt))
  text_read (ndisc m) c = (begun_read _ m c (ndisc_begun m), code_begun (ndisc_begun m) (grind arith))
  text_read (mld m) c = (sealed_mld m c, code_begun (mld_begun m) (grind arith))

  pub content_read : (v : MessageValue) → IsCanonical v → IsContent (packet_text capabilities source destination v)
      (norm v)
  content_read v c = (text_read v c).0

-- the packet of a canonical value is read as its normal form
pub message_text : (capabilities : ChecksumCapabilities) (source destination : Ipv6Address) (v : MessageValue)
    → Fills capabilities → IsCanonical v → IsMessage capabilities source destination
    (packet_text capabilities source destination v) (norm v)
message_text capabilities source destination v fills c =
    let long : length (packet_text capabilities source destination v) ≡ length (text v) =
    length-packet_text capabilities source destination v ∙ sym (length-text v) in
    let some : 8 ≤ length (text v) = omega (arith, text_some v, length-text v) in
    let read = text_read capabilities source destination v c in
    let front =
    whole-content (packet_text capabilities source destination v) (norm v) (omega (arith, some, long)) read.0 in
    let good : is_verified capabilities.icmpv6 ≡ true → IsGood (packet_text capabilities source destination v)
    (message_sum source destination (length (packet_text capabilities source destination v))) = λ verified. subst
    (λ (n : ℕ). IsGood (packet_text capabilities source destination v) (message_sum source destination n))
    (sym long)
    (IsGood-sealed_where checksum_field (text v) (message_sum source destination (length (text v))) refl
    (omega (arith, some)) capabilities.icmpv6 refl fills verified) in
    record {
      passes = (front.0, (front.1.0, (front.1.1.0, (good, read.1))));
      content = read.0;
    }
