-- The format of messages of multicast listener discovery: what is read in their texts, and what was read.
use Rattle.std.proofs.Common.{◌≡◌, ◌↔◌, ℕ, ◌+◌, ◌/◌, ◌%◌, ◌<◌, ◌≤◌, ◌^◌, Bool, true, false, IsTrue, List, [], ◌∷◌}
use Rattle.std.proofs.Common.{◌++◌, length, take, drop, refl, sym, ap, subst, ◌∙◌, arith, length-append}
use Rattle.std.proofs.lemmas.List.{append-nil, take_at, drop_at, drop-drop, length-drop, get_or-append_right}
use Rattle.byteorder.specs.Endian.{big_bytes, big_number}
use Rattle.byteorder.specs.Numbers.{big_number-reads_back}
use Rattle.icmp6_wire.specs.Words.{IsBytes, part, fields, SameText, octets_of, Ipv6Address}
use Rattle.wirebase.proofs.ByteParts.{number_of-small}
use Rattle.wirebase.proofs.Format.{IsFormat, same_text}
use Rattle.icmp6_wire.specs.Mld.{MldValue, query, report, records, sqrv, record_texts, text, IsContent}
use Rattle.icmp6_wire.specs.Mld.{IsMessage, IsCanonical, norm, format}
use Rattle.icmp6_wire.proofs.MldTexts.{query_text, report_text, length-records, message-one}

-- ---- reading what was written

flag_read : (flag : Bool) (qrv : ℕ) → qrv < 8 → IsTrue flag ↔ (sqrv flag qrv / 8 % 2 ≡ 1)
flag_read true qrv small = (λ yes. omega arith, λ yes. refl)
flag_read false qrv small = (λ no. cc, λ one. absurd (omega arith))

qrv_read : (flag : Bool) (qrv : ℕ) → qrv < 8 → qrv ≡ sqrv flag qrv % 8
qrv_read true qrv small = omega arith
qrv_read false qrv small = omega arith

query_read : (code : ℕ) (group : Ipv6Address) (flag : Bool) (qrv qqic sources : ℕ) (d : List ℕ) → code < 2 ^ 16
    → qrv < 8 → sources < 2 ^ 16
    → IsMessage (0x82 ∷ 0 ∷ 0 ∷ 0
    ∷ (big_bytes 2 code ++ (0 ∷ 0 ∷ (octets_of group ++ (sqrv flag qrv ∷ qqic ∷ (big_bytes 2 sources ++ d))))))
    (query code group flag qrv qqic sources d)
unfolding part
query_read code group flag qrv qqic sources d few small many =
    let behind : List ℕ = sqrv flag qrv ∷ qqic ∷ (big_bytes 2 sources ++ d) in
    let past : (n : ℕ) → drop (16 + n) (octets_of group ++ behind) ≡ drop n behind =
    λ n. sym (drop-drop n 16 (octets_of group ++ behind))
    ∙ ap (λ (l : List ℕ). drop n l) (drop_at (octets_of group) behind 16 group.whole) in
    let first = get_or-append_right (octets_of group) behind 16 16 0 group.whole (omega arith) in
    let second = get_or-append_right (octets_of group) behind 16 17 0 group.whole (omega arith) in
    record {
      passes = (omega arith, (refl, (omega (arith, length-append (octets_of group) behind, group.whole), tt)));
      content = record {
        kind = refl;
        code_is = sym (big_number-reads_back 2 code [] (omega (arith, few)));
        group_is = sym (take_at (octets_of group) behind 16 group.whole);
        flag_is = rw first (flag_read flag qrv small);
        qrv_is = rw first (qrv_read flag qrv small);
        qqic_is = sym second;
        sources_are =
            sym (ap (λ (l : List ℕ). big_number 2 (take 2 l)) (past 2)
            ∙ big_number-reads_back 2 sources [] (omega (arith, many)));
        data_is = sym (past 4);
      };
    }

report_read : (count : ℕ) (d : List ℕ) → count < 2 ^ 16
    → IsMessage (0x8f ∷ 0 ∷ 0 ∷ 0 ∷ 0 ∷ 0 ∷ (big_bytes 2 count ++ d)) (report count d)
unfolding part
report_read count d few = record {
  passes = (omega arith, (refl, (omega arith, tt)));
  content = record {
    kind = refl;
    count_is = sym (big_number-reads_back 2 count [] (omega (arith, few)));
    data_is = refl;
  };
}

-- the text of a report
one_text : (count : ℕ) (d : List ℕ) → text (report count d) ≡ 0x8f ∷ 0 ∷ 0 ∷ 0 ∷ 0 ∷ 0 ∷ (big_bytes 2 count ++ d)
unfolding fields
one_text count d =
    report_text count (d ∷ [])
    ∙ ap (λ (l : List ℕ). 0x8f ∷ 0 ∷ 0 ∷ 0 ∷ 0 ∷ 0 ∷ (big_bytes 2 count ++ l)) (append-nil d)

one_report : (count : ℕ) (d : List ℕ) → count < 2 ^ 16 → IsMessage (text (report count d)) (report count d)
one_report count d few = rw (one_text count d) (report_read count d few)

pub norm-text : (v : MldValue) → text (norm v) ≡ text v
norm-text (records rs) =
    one_text (length rs) (fields (record_texts rs)) ∙ sym (report_text (length rs) (record_texts rs))
norm-text _ = refl

-- the text of a canonical value is read as its normal form
pub message_read : (v : MldValue) → IsCanonical v → IsMessage (text v) (norm v)
message_read (query code group flag qrv qqic sources d) c =
    rw (query_text code group flag qrv qqic sources d) (query_read code group flag qrv qqic sources d c.0 c.1 c.3)
message_read (report count d) c = one_report count d c.0
message_read (records rs) c =
    subst (λ (bytes : List ℕ). IsMessage bytes (norm (records rs))) (norm-text (records rs))
    (one_report (length rs) (fields (record_texts rs)) (omega (arith, c.0)))

-- ---- what was read

content-canonical : (bytes : List ℕ) (v : MldValue) → IsBytes bytes → length bytes ≤ 65515 → IsContent bytes v
    → IsCanonical v
content-canonical bytes (query code group flag qrv qqic sources d) are few m = (
  omega (arith, m.code_is, number_of-small 4 6 bytes refl are),
  omega (arith, m.qrv_is),
  omega (arith, m.qqic_is, are 25),
  omega (arith, m.sources_are, number_of-small 26 28 bytes refl are),
  omega (arith, ap (λ (l : List ℕ). length l) m.data_is, length-drop 28 bytes, few),
)
content-canonical bytes (report count d) are few m = (
  omega (arith, m.count_is, number_of-small 6 8 bytes refl are),
  omega (arith, ap (λ (l : List ℕ). length l) m.data_is, length-drop 8 bytes, few),
)
content-canonical bytes (records rs) are few m = absurd m

-- ---- the format

norm-canonical : (v : MldValue) → IsCanonical v → IsCanonical (norm v)
norm-canonical (records rs) c = (omega (arith, c.0), omega (arith, c.0, length-records rs))
norm-canonical _ c = c

norm-norm : (v : MldValue) → norm (norm v) ≡ norm v
norm-norm (records rs) = refl
norm-norm _ = refl

pub norm-read : (bytes : List ℕ) (v : MldValue) → IsMessage bytes v → norm v ≡ v
norm-read bytes (records rs) m = absurd m.content
norm-read bytes _ m = refl

pub mld_format : IsFormat format
mld_format = record {
  one_value = message-one;
  reads_back = λ v fills c. message_read v c;
  norm_canonical = norm-canonical;
  norm_norm = norm-norm;
  norm_text = λ v c regular. norm-text v;
  accepted = λ bytes v are few m. content-canonical bytes v are few m.content;
  regular = λ bytes v m e. e;
  kept = λ bytes v are c m uncut. norm-read bytes v m;
}

pub mld_same_text : (a b : MldValue) → SameText format a b
mld_same_text a b = same_text format mld_format tt a b

-- ---- inside another message, which has a checksum

-- the type of a message
abbrev pub type_of : MldValue → ℕ
type_of (query code group flag qrv qqic sources d) = 0x82
type_of (report count d) = 0x8f
type_of (records rs) = 0x8f

-- a message begins with its type, the code and the checksum, both zero
pub text-begins : (v : MldValue) → text v ≡ type_of v ∷ 0 ∷ 0 ∷ 0 ∷ drop 4 (text v)
text-begins (query code group flag qrv qqic sources d) = rw (query_text code group flag qrv qqic sources d) refl
text-begins (report count d) = rw (report_text count (d ∷ [])) refl
text-begins (records rs) = rw (report_text (length rs) (record_texts rs)) refl

-- what is read does not depend on the checksum
content-unsealed : (t code a b x y : ℕ) (rest : List ℕ) (v : MldValue) → IsContent (t ∷ code ∷ a ∷ b ∷ rest) v
    → IsContent (t ∷ code ∷ x ∷ y ∷ rest) v
unfolding part
content-unsealed t code a b x y rest (query c group flag qrv qqic sources d) m = search m
content-unsealed t code a b x y rest (report count d) m = search m
content-unsealed t code a b x y rest (records rs) m = m

pub message-unsealed : (t code a b x y : ℕ) (rest : List ℕ) (v : MldValue) → IsMessage (t ∷ code ∷ a ∷ b ∷ rest) v
    → IsMessage (t ∷ code ∷ x ∷ y ∷ rest) v
message-unsealed t code a b x y rest v m =
    record { passes = m.passes; content = content-unsealed t code a b x y rest v m.content }
