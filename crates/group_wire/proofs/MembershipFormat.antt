-- The format of messages about groups: what is read in their texts, and what was read.
use Rattle.std.proofs.Common.{◌≡◌, ◌↔◌, ℕ, ◌+◌, ◌*◌, ◌/◌, ◌%◌, ◌-◌, ◌≤◌, ◌<◌, ◌^◌, Bool, true, false, IsTrue}
use Rattle.std.proofs.Common.{List, [], ◌∷◌, ◌++◌, length, take, drop, Option, Some, inl, inr, refl, sym, ap, subst}
use Rattle.std.proofs.Common.{◌∙◌, arith}
use Rattle.std.specs.Prelude.{nat_lt, slice_index, if◌then◌else◌}
use Rattle.std.proofs.lemmas.Bool.{cases_lt}
use Rattle.std.proofs.lemmas.List.{take_all, length-take-le}
use Rattle.byteorder.specs.Endian.{big_bytes, big_number}
use Rattle.byteorder.specs.Numbers.{big_number-reads_back}
use Rattle.wirebase.specs.Bytes.{IsBytes, part}
use Rattle.wirebase.specs.ByteWriter.{be8, be16, fields}
use Rattle.wirebase.specs.Checks.{Passes}
use Rattle.wirebase.specs.Checksum.{IsGood, sealed}
use Rattle.wirebase.specs.Format.{SameText}
use Rattle.wirebase.proofs.ByteParts.{number_of-small}
use Rattle.wirebase.proofs.ChecksumSeals.{IsGood-sealed, length-sealed}
use Rattle.wirebase.proofs.Format.{IsFormat, same_text}
use Rattle.wirebase.proofs.Pieces.{length-part}
use Rattle.wirebase.proofs.Parses.{same_flag}
use Rattle.group_wire.specs.declared.family.Family.{Family}
use Rattle.group_wire.specs.declared.family.Kind.{Kind}
use Rattle.group_wire.specs.Family.{width, group_at, older_len, kind_of}
use Rattle.group_wire.specs.Records.{records_len_in}
use Rattle.group_wire.specs.Membership.{Value, older_query, query, oldest_report, older_report, leave, report}
use Rattle.group_wire.specs.Membership.{header, stated_qrv, sqrv, source_count, text, query_len}
use Rattle.group_wire.specs.Membership.{text_len, checksum_field, kind_in, code_in, code_end}
use Rattle.group_wire.specs.Membership.{group_in, source_count_in, sources_len_in, report_len_in, kind_checks}
use Rattle.group_wire.specs.Membership.{IsContent, IsMessage, IsCanonical, oldest_in, norm, packet_text, format}
use Rattle.group_wire.proofs.Families.{div_times}
use Rattle.group_wire.proofs.MembershipTexts.{head, length-message, byte_behind, drop_behind, group_read, code_read}
use Rattle.group_wire.proofs.MembershipTexts.{kind_read, head_kind, query_rest, shape}
use Rattle.group_wire.proofs.MembershipTexts.{text-shape, shape-sealed, HasGroup, length-text}
use Rattle.group_wire.proofs.RecordsAhead.{front_records}

-- ---- reading what was written

-- what bytes with a good checksum say
record Says (f : Family) (bytes : List ℕ) (v : Value) : Type 0 where
  passes : Passes (kind_checks f bytes (kind_in f bytes))
  content : IsContent f bytes v

-- a message of one group that is no query
group_passes : (f : Family) (kind : Kind) (a b : ℕ) (group : List ℕ) → length group ≡ width f → (t : Kind)
    → kind_in f (head f kind 0 a b ++ (group ++ [])) ≡ Some t
    → (older_len f ≤ length (head f kind 0 a b ++ (group ++ []))
    → Passes (kind_checks f (head f kind 0 a b ++ (group ++ [])) (Some t)))
    → Passes (kind_checks f (head f kind 0 a b ++ (group ++ [])) (kind_in f (head f kind 0 a b ++ (group ++ []))))
group_passes f kind a b group whole t is passes =
    subst (λ (k : Option Kind). Passes (kind_checks f (head f kind 0 a b ++ (group ++ [])) k)) (sym is)
    (passes (omega (arith, length-message f kind 0 a b group [] whole)))

-- the flag and the robustness variable in their byte
stated_same : (qrv : ℕ) → qrv < 8 → stated_qrv qrv ≡ qrv
stated_same qrv less = let small : nat_lt qrv 8 ≡ true = grind arith in rw small refl

stated_small : (qrv : ℕ) → stated_qrv qrv < 8
stated_small qrv =
    elim (cases_lt qrv 8) [
      | inl less ↦ subst (λ (n : ℕ). n < 8) (sym (stated_same qrv less)) less
      | inr most ↦ let large : nat_lt qrv 8 ≡ false = grind arith in rw large (omega arith)
    ]

stated_twice : (qrv : ℕ) → stated_qrv (stated_qrv qrv) ≡ stated_qrv qrv
stated_twice qrv = stated_same (stated_qrv qrv) (stated_small qrv)

flag_in : (flag : Bool) (q : ℕ) → q < 8 → IsTrue flag ↔ (((if flag then 8 else 0) + q) / 8 % 2 ≡ 1)
flag_in true q small = (λ yes. omega (arith, small), λ yes. refl)
flag_in false q small = (λ no. cc, λ one. absurd (omega (arith, small, one)))

qrv_in : (flag : Bool) (q : ℕ) → q < 8 → q ≡ ((if flag then 8 else 0) + q) % 8
qrv_in true q small = omega (arith, small)
qrv_in false q small = omega (arith, small)

query_says : (f : Family) (code : ℕ) (group : List ℕ) (flag : Bool) (qrv qqic : ℕ) (sources : List ℕ) (a b : ℕ)
    → IsCanonical f (query code group flag qrv qqic sources)
    → Says f (shape f (query code group flag qrv qqic sources) a b)
    (query code group flag (stated_qrv qrv) qqic sources)
unfolding part
query_says f code group flag qrv qqic sources a b (small, whole, octet, (count, long, many)) =
    let rest : List ℕ = query_rest f flag qrv qqic sources in
    let bytes : List ℕ = head f Kind.Query code a b ++ (group ++ rest) in
    let kind : kind_in f bytes ≡ Some Kind.Query =
    head_kind f Kind.Query code a b (group ++ rest) ∙ kind_read f Kind.Query in
    let room : length bytes ≡ query_len f + length sources =
    omega (arith, length-message f Kind.Query code a b group rest whole) in
    let at : slice_index bytes (older_len f) ≡ sqrv flag qrv =
    ap (λ (n : ℕ). slice_index bytes n) (omega arith) ∙ byte_behind f Kind.Query code a b group rest whole 0 in
    let number : length sources / width f ≡ count =
    ap (λ (n : ℕ). n / width f) long ∙ div_times f count in
    let two : query_len f - (older_len f + 2) ≡ 2 = omega arith in
    let told : source_count_in f bytes ≡ source_count f sources =
    ap (λ (n : ℕ). big_number 2 (take n (drop (older_len f + 2) bytes))) two
    ∙ ap (λ (l : List ℕ). big_number 2 (take 2 l)) (drop_behind f Kind.Query code a b group rest whole 2)
    ∙ big_number-reads_back 2 (source_count f sources) [] (omega arith) in
    let all : sources_len_in f bytes ≡ length sources =
    ap (λ (n : ℕ). width f * n) (told ∙ omega (arith, number, many)) ∙ sym long in
    record {
      passes =
          subst (λ (k : Option Kind). Passes (kind_checks f bytes k)) (sym kind)
          (inr (omega (arith, room)), (λ reaches. omega (arith, room, all), tt));
      content = record {
        kind = kind;
        long = omega (arith, room);
        code_is = code_read f Kind.Query code a b (group ++ rest) small;
        group_is = group_read f Kind.Query code a b group rest whole;
        flag_is = rw at (flag_in flag (stated_qrv qrv) (stated_small qrv));
        qrv_is = rw at (qrv_in flag (stated_qrv qrv) (stated_small qrv));
        qqic_is = sym (byte_behind f Kind.Query code a b group rest whole 1);
        sources_are =
            sym (ap (λ (n : ℕ). take n (drop (query_len f) bytes)) (omega (arith, all))
            ∙ ap (λ (l : List ℕ). take (length sources) l) (drop_behind f Kind.Query code a b group rest whole 4)
            ∙ take_all (length sources) sources (omega arith));
      };
    }

report_says : (f : Family) (count : ℕ) (records : List ℕ) (a b : ℕ) → IsCanonical f (report count records)
    → Says f (shape f (report count records) a b) (report count records)
unfolding part
report_says f count records a b (small, long) =
    let bytes : List ℕ = shape f (report count records) a b in
    let kind : kind_in f bytes ≡ Some Kind.Report = kind_read f Kind.Report in
    let number : big_number 2 (big_bytes 2 count ++ []) ≡ count =
    big_number-reads_back 2 count [] (omega (arith, small)) in
    let all : report_len_in f bytes ≡ length records =
    ap (λ (n : ℕ). records_len_in (width f) n records) number ∙ long in
    record {
      passes =
          subst (λ (k : Option Kind). Passes (kind_checks f bytes k)) (sym kind) (omega (arith, all), tt);
      content = (
        kind,
        sym number,
        sym (ap (λ (n : ℕ). take n records) all ∙ take_all (length records) records (omega arith)),
      );
    }

oldest_says : (f : Family) (group : List ℕ) (a b : ℕ) → length group ≡ width f
    → Says f (shape f (oldest_report group) a b) (oldest_in f group)
oldest_says Family.Igmp group a b whole = record {
  passes = group_passes Family.Igmp Kind.OldestReport a b group whole Kind.OldestReport refl (λ long. (long, tt));
  content = (refl, group_read Family.Igmp Kind.OldestReport 0 a b group [] whole);
}
oldest_says Family.Mld group a b whole = record {
  passes = group_passes Family.Mld Kind.OldestReport a b group whole Kind.OlderReport refl (λ long. (long, tt));
  content = (refl, group_read Family.Mld Kind.OldestReport 0 a b group [] whole);
}

says : (f : Family) (v : Value) (a b : ℕ) → IsCanonical f v → Says f (shape f v a b) (norm f v)
says f (older_query code group) a b (small, whole) =
    let bytes : List ℕ = head f Kind.Query code a b ++ (group ++ []) in
    let kind : kind_in f bytes ≡ Some Kind.Query =
    head_kind f Kind.Query code a b (group ++ []) ∙ kind_read f Kind.Query in
    let room : length bytes ≡ older_len f = omega (arith, length-message f Kind.Query code a b group [] whole) in
    record {
      passes =
          subst (λ (k : Option Kind). Passes (kind_checks f bytes k)) (sym kind)
          (inl room, (λ reaches. absurd (omega (arith, room, reaches)), tt));
      content = (
        kind,
        room,
        code_read f Kind.Query code a b (group ++ []) small,
        group_read f Kind.Query code a b group [] whole,
      );
    }
says f (query code group flag qrv qqic sources) a b c = query_says f code group flag qrv qqic sources a b c
says f (oldest_report group) a b whole = oldest_says f group a b whole
says f (older_report group) a b whole =
    let kind = head_kind f Kind.OlderReport 0 a b (group ++ []) ∙ kind_read f Kind.OlderReport in
    record {
      passes = group_passes f Kind.OlderReport a b group whole Kind.OlderReport kind (λ long. (long, tt));
      content = (kind, group_read f Kind.OlderReport 0 a b group [] whole);
    }
says f (leave group) a b whole =
    let kind = head_kind f Kind.Leave 0 a b (group ++ []) ∙ kind_read f Kind.Leave in
    record {
      passes = group_passes f Kind.Leave a b group whole Kind.Leave kind (λ long. (long, tt));
      content = (kind, group_read f Kind.Leave 0 a b group [] whole);
    }
says f (report count records) a b c = report_says f count records a b c

pub has_group : (f : Family) (v : Value) → IsCanonical f v → HasGroup f v
has_group f (older_query code group) c = c.1
has_group f (query code group flag qrv qqic sources) c = c.1
has_group f (oldest_report group) c = c
has_group f (older_report group) c = c
has_group f (leave group) c = c
has_group f (report count records) c = tt

text_some : (f : Family) (v : Value) → 8 ≤ text_len f v
text_some f (report count records) = omega arith
text_some Family.Igmp _ = omega arith
text_some Family.Mld _ = omega arith

-- the packet of a canonical value is read as its normal form
pub message_read : (f : Family) (extra : ℕ → ℕ) (v : Value) → IsCanonical f v
    → IsMessage f (extra (length (packet_text f extra v))) (packet_text f extra v) (norm f v)
message_read f extra v c =
    let bytes : List ℕ = packet_text f extra v in
    let sum : ℕ = extra (length (text f v)) in
    let some : 8 ≤ length (text f v) = omega (arith, length-text f v (has_group f v c), text_some f v) in
    let long : length bytes ≡ length (text f v) =
    length-sealed checksum_field (text f v) sum refl (omega (arith, some)) in
    let good : IsGood bytes sum = IsGood-sealed checksum_field (text f v) sum refl (omega (arith, some)) refl in
    let laid = shape-sealed f v sum in
    let same : bytes ≡ shape f v laid.0 laid.1 =
    ap (λ (l : List ℕ). sealed checksum_field l sum) (text-shape f v) ∙ laid.2 in
    let said : Says f bytes (norm f v) =
    subst (λ (l : List ℕ). Says f l (norm f v)) (sym same) (says f v laid.0 laid.1 c) in
    record {
      passes = (
        omega (arith, long, some),
        (subst (λ (n : ℕ). IsGood bytes (extra n)) (sym long) good, said.passes),
      );
      content = said.content;
    }

-- ---- what was read

kind_of_value : Value → Kind
kind_of_value (older_query code group) = Kind.Query
kind_of_value (query code group flag qrv qqic sources) = Kind.Query
kind_of_value (oldest_report group) = Kind.OldestReport
kind_of_value (older_report group) = Kind.OlderReport
kind_of_value (leave group) = Kind.Leave
kind_of_value (report count records) = Kind.Report

content-kind : (f : Family) (bytes : List ℕ) (v : Value) → IsContent f bytes v
    → kind_in f bytes ≡ Some (kind_of_value v)
unfolding kind_of_value
content-kind f bytes (older_query code group) m = m.0
content-kind f bytes (query code group flag qrv qqic sources) m = m.kind
content-kind f bytes (oldest_report group) m = m.0
content-kind f bytes (older_report group) m = m.0
content-kind f bytes (leave group) m = m.0
content-kind f bytes (report count records) m = m.0

content-one : (f : Family) (bytes : List ℕ) (v w : Value) → IsContent f bytes v → IsContent f bytes w → v ≡ w
unfolding kind_of_value
content-one f bytes (older_query code group) (older_query other another) a b =
    let one = a.2 ∙ sym b.2 in
    let two = a.3 ∙ sym b.3 in
    cc
content-one f bytes (query code group flag qrv qqic sources) (query other another other_flag more many few) a b =
    let one = a.code_is ∙ sym b.code_is in
    let two = a.group_is ∙ sym b.group_is in
    let three = same_flag flag other_flag _ a.flag_is b.flag_is in
    let four = a.qrv_is ∙ sym b.qrv_is in
    let five = a.qqic_is ∙ sym b.qqic_is in
    let six = a.sources_are ∙ sym b.sources_are in
    cc
content-one f bytes (older_query code group) (query other another flag qrv qqic sources) a b =
    absurd (omega (arith, a.1, b.long))
content-one f bytes (query code group flag qrv qqic sources) (older_query other another) a b =
    absurd (omega (arith, b.1, a.long))
content-one f bytes (oldest_report group) (oldest_report another) a b = let one = a.1 ∙ sym b.1 in cc
content-one f bytes (older_report group) (older_report another) a b = let one = a.1 ∙ sym b.1 in cc
content-one f bytes (leave group) (leave another) a b = let one = a.1 ∙ sym b.1 in cc
content-one f bytes (report count records) (report other more) a b =
    let one = a.1 ∙ sym b.1 in
    let two = a.2 ∙ sym b.2 in
    cc
content-one f bytes v w a b =
    let one = content-kind f bytes v a in
    let two = content-kind f bytes w b in
    absurd cc

pub message-one : (f : Family) (extra : ℕ) (bytes : List ℕ) (v w : Value) → IsMessage f extra bytes v
    → IsMessage f extra bytes w → v ≡ w
message-one f extra bytes v w a b = content-one f bytes v w a.content b.content

-- the checks of what has a kind
passes_of : (f : Family) (extra : ℕ) (bytes : List ℕ) (v : Value) → IsMessage f extra bytes v
    → Passes (kind_checks f bytes (Some (kind_of_value v)))
passes_of f extra bytes v m =
    subst (λ (k : Option Kind). Passes (kind_checks f bytes k)) (content-kind f bytes v m.content) m.passes.1.1

code_small : (f : Family) (bytes : List ℕ) → IsBytes bytes → code_in f bytes < code_end f
code_small Family.Igmp bytes are = omega (arith, are 1)
code_small Family.Mld bytes are = omega (arith, number_of-small 4 6 bytes refl are)

group_long : (f : Family) (bytes group : List ℕ) → older_len f ≤ length bytes → group ≡ group_in f bytes
    → length group ≡ width f
group_long f bytes group reaches is =
    omega (
      arith,
      ap (λ (l : List ℕ). length l) is,
      length-part bytes (group_at f) (older_len f) (omega arith) (omega (arith, reaches)),
    )

two_small : (bytes : List ℕ) (i j : ℕ) → j ≡ i + 2 → IsBytes bytes → big_number 2 (part bytes i j) < 2 ^ 16
two_small bytes i j e are =
    let wide : j - i ≡ 2 = omega (arith, e) in
    subst (λ (n : ℕ). big_number n (part bytes i j) < 2 ^ 16) wide (number_of-small i j bytes e are)

content-canonical : (f : Family) (extra : ℕ) (bytes : List ℕ) (v : Value) → IsBytes bytes → IsMessage f extra bytes v
    → IsCanonical f v
unfolding kind_of_value
content-canonical f extra bytes (older_query code group) are m =
    let is = m.content in (
      omega (arith, is.2, code_small f bytes are),
      group_long f bytes group (omega (arith, is.1)) is.3,
    )
content-canonical f extra bytes (query code group flag qrv qqic sources) are m =
    let is = m.content in
    let fits = (passes_of f extra bytes (query code group flag qrv qqic sources) m).1.0 is.long in
    let long : length sources ≡ sources_len_in f bytes =
    omega (
      arith,
      ap (λ (l : List ℕ). length l) is.sources_are,
      length-part bytes (query_len f) (query_len f + sources_len_in f bytes) (omega arith) (omega (arith, fits)),
    ) in (
      omega (arith, is.code_is, code_small f bytes are),
      group_long f bytes group (omega (arith, is.long)) is.group_is,
      omega (arith, is.qqic_is, are (older_len f + 1)),
      (source_count_in f bytes, long, two_small bytes (older_len f + 2) (query_len f) (omega arith) are),
    )
content-canonical f extra bytes (oldest_report group) are m =
    group_long f bytes group (passes_of f extra bytes (oldest_report group) m).0 m.content.1
content-canonical f extra bytes (older_report group) are m =
    group_long f bytes group (passes_of f extra bytes (older_report group) m).0 m.content.1
content-canonical f extra bytes (leave group) are m =
    group_long f bytes group (passes_of f extra bytes (leave group) m).0 m.content.1
content-canonical f extra bytes (report count records) are m =
    let is = m.content in
    let fits = (passes_of f extra bytes (report count records) m).0 in
    let n : ℕ = big_number 2 (part bytes 6 8) in
    let long : length records ≡ report_len_in f bytes =
    ap (λ (l : List ℕ). length l) is.2 ∙ length-take-le (report_len_in f bytes) (drop 8 bytes) fits in
    let all : records_len_in (width f) n records ≡ report_len_in f bytes =
    ap (λ (l : List ℕ). records_len_in (width f) n l) is.2 ∙ front_records (width f) n (drop 8 bytes) fits in (
      omega (arith, is.1, number_of-small 6 8 bytes refl are),
      ap (λ (k : ℕ). records_len_in (width f) k records) is.1 ∙ all ∙ sym long,
    )

-- ---- the format

norm-canonical : (f : Family) (v : Value) → IsCanonical f v → IsCanonical f (norm f v)
norm-canonical Family.Igmp (oldest_report group) c = c
norm-canonical Family.Mld (oldest_report group) c = c
norm-canonical f (older_query code group) c = c
norm-canonical f (query code group flag qrv qqic sources) c = c
norm-canonical f (older_report group) c = c
norm-canonical f (leave group) c = c
norm-canonical f (report count records) c = c

norm-norm : (f : Family) (v : Value) → norm f (norm f v) ≡ norm f v
norm-norm Family.Igmp (oldest_report group) = refl
norm-norm Family.Mld (oldest_report group) = refl
norm-norm f (older_query code group) = refl
norm-norm f (query code group flag qrv qqic sources) =
    ap (λ (q : ℕ). query code group flag q qqic sources) (stated_twice qrv)
norm-norm f (older_report group) = refl
norm-norm f (leave group) = refl
norm-norm f (report count records) = refl

norm-text : (f : Family) (v : Value) → text f (norm f v) ≡ text f v
norm-text Family.Igmp (oldest_report group) = refl
norm-text Family.Mld (oldest_report group) = refl
norm-text f (older_query code group) = refl
norm-text f (query code group flag qrv qqic sources) =
    ap (λ (q : ℕ). fields (header f Kind.Query code ++ group ∷ be8 ((if flag then 8 else 0) + q) ∷ be8 qqic
    ∷ be16 (source_count f sources) ∷ sources ∷ [])) (stated_twice qrv)
norm-text f (older_report group) = refl
norm-text f (leave group) = refl
norm-text f (report count records) = refl

-- no type of MLD is that of the oldest report
not_oldest : (t : ℕ) → kind_of Family.Mld t ≡ Some Kind.OldestReport → ⊥
not_oldest t e = grind (arith, e)

norm-read : (f : Family) (bytes : List ℕ) (v : Value) → IsContent f bytes v → norm f v ≡ v
norm-read Family.Igmp bytes (oldest_report group) m = refl
norm-read Family.Mld bytes (oldest_report group) m = absurd (not_oldest (slice_index bytes 0) m.0)
norm-read f bytes (older_query code group) m = refl
norm-read f bytes (query code group flag qrv qqic sources) m =
    ap (λ (q : ℕ). query code group flag q qqic sources) (stated_same qrv (omega (arith, m.qrv_is)))
norm-read f bytes (older_report group) m = refl
norm-read f bytes (leave group) m = refl
norm-read f bytes (report count records) m = refl

pub membership_format : (f : Family) (extra : ℕ → ℕ) → IsFormat (format f extra)
membership_format f extra = record {
  one_value = λ bytes. message-one f (extra (length bytes)) bytes;
  reads_back = λ v fills c. message_read f extra v c;
  norm_canonical = norm-canonical f;
  norm_norm = norm-norm f;
  norm_text = λ v c regular. ap (λ (l : List ℕ). sealed checksum_field l (extra (length l))) (norm-text f v);
  accepted = λ bytes v are few m. content-canonical f (extra (length bytes)) bytes v are m;
  regular = λ bytes v m e. e;
  kept = λ bytes v are c m uncut. norm-read f bytes v m.content;
}

pub membership_same_text : (f : Family) (extra : ℕ → ℕ) (a b : Value) → SameText (format f extra) a b
membership_same_text f extra a b = same_text (format f extra) (membership_format f extra) tt a b

pub ruleset formats = (membership_same_text)
