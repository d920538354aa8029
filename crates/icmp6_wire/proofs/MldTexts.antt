-- The texts of messages of multicast listener discovery, and their lengths; bytes are one message at most.
use Rattle.std.proofs.Common.{◌≡◌, ◌≤◌, ℕ, ◌*◌, Bool, List, [], ◌∷◌, ◌++◌, length, refl}
use Rattle.std.proofs.Common.{sym, ap, ◌∙◌, arith, length-append}
use Rattle.std.proofs.lemmas.List.{append-nil, length-map}
use Rattle.byteorder.specs.Endian.{big_bytes}
use Rattle.icmp6_wire.specs.Words.{be8, be16, fields, octets_of, Ipv6Address}
use Rattle.wirebase.proofs.Ipv6Header.{same_address}
use Rattle.wirebase.proofs.Parses.{same_flag}
use Rattle.icmp6_wire.specs.Mld.{MldValue, query, report, records, sqrv, query_fields, report_fields}
use Rattle.icmp6_wire.specs.Mld.{record_texts, text, text_len, IsContent, IsMessage}
use Rattle.icmp6_wire.specs.MldRecord.{RecordValue, text as record_text}
use Rattle.icmp6_wire.proofs.MldRecords.{length-text as length-record}

pub query_text : (code : ℕ) (group : Ipv6Address) (flag : Bool) (qrv qqic sources : ℕ) (d : List ℕ)
    → fields (query_fields code group flag qrv qqic sources d)
    ≡ 0x82 ∷ 0 ∷ 0 ∷ 0
    ∷ (big_bytes 2 code ++ (0 ∷ 0 ∷ (octets_of group ++ (sqrv flag qrv ∷ qqic ∷ (big_bytes 2 sources ++ d)))))
unfolding fields be8 be16
query_text code group flag qrv qqic sources d = simp append-nil

pub report_text : (count : ℕ) (rest : List (List ℕ)) → fields (report_fields count rest) ≡ 0x8f ∷ 0 ∷ 0 ∷ 0 ∷ 0 ∷ 0
    ∷ (big_bytes 2 count ++ fields rest)
unfolding fields be8 be16
report_text count rest = refl

length-data : (d : List ℕ) → length (fields (d ∷ [])) ≡ length d
unfolding fields
length-data d = ap length (append-nil d)

pub length-records : (rs : List RecordValue) → length (fields (record_texts rs)) ≡ 20 * length rs
unfolding fields
length-records [] = refl
length-records (r ∷ rs) =
    omega (arith, length-append (record_text r) (fields (record_texts rs)), length-record r, length-records rs)

pub length-text : (v : MldValue) → length (text v) ≡ text_len v
length-text (query code group flag qrv qqic sources d) =
    let rest : List ℕ = sqrv flag qrv ∷ qqic ∷ (big_bytes 2 sources ++ d) in
    omega (
      arith,
      ap length (query_text code group flag qrv qqic sources d),
      length-append (octets_of group) rest,
      group.whole,
    )
length-text (report count d) = omega (arith, ap length (report_text count (d ∷ [])), length-data d)
length-text (records rs) = omega (arith, ap length (report_text (length rs) (record_texts rs)), length-records rs)

pub text_some : (v : MldValue) → 8 ≤ text_len v
text_some v = grind arith

-- how many records there are, and how many bytes a message takes
pub ruleset counts = (length-map, length-text)

-- ---- one message at most

content-one : (bytes : List ℕ) (v w : MldValue) → IsContent bytes v → IsContent bytes w → v ≡ w
content-one bytes (query code group flag qrv qqic sources d) (query other another other_flag more many few e) a b =
    let one = a.code_is ∙ sym b.code_is in
    let two = same_address group another (a.group_is ∙ sym b.group_is) in
    let three = same_flag flag other_flag _ a.flag_is b.flag_is in
    let four = a.qrv_is ∙ sym b.qrv_is in
    let five = a.qqic_is ∙ sym b.qqic_is in
    let six = a.sources_are ∙ sym b.sources_are in
    let seven = a.data_is ∙ sym b.data_is in
    cc
content-one bytes (report count d) (report other e) a b =
    let one = a.count_is ∙ sym b.count_is in
    let two = a.data_is ∙ sym b.data_is in
    cc
content-one bytes (records rs) w a b = absurd a
content-one bytes v (records rs) a b = absurd b
content-one bytes _ _ a b = absurd (omega (arith, a.kind, b.kind))

pub message-one : (bytes : List ℕ) (v w : MldValue) → IsMessage bytes v → IsMessage bytes w → v ≡ w
message-one bytes v w a b = content-one bytes v w a.content b.content
