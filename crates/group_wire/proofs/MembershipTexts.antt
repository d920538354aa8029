-- The texts of messages about groups, and what is read in them.
use Rattle.std.proofs.Common.{◌≡◌, ℕ, ◌+◌, ◌-◌, ◌<◌, Bool, ◌%◌, ◌^◌}
use Rattle.std.proofs.Common.{List, [], ◌∷◌, ◌++◌, length, take, drop, Some, refl, sym, ap, ◌∙◌, arith}
use Rattle.std.proofs.Common.{length-append}
use Rattle.std.specs.Prelude.{slice_index}
use Rattle.std.proofs.lemmas.List.{append-nil, append_assoc, take_at, drop_at, drop-drop, get_or-append_right}
use Rattle.byteorder.specs.Endian.{big_bytes}
use Rattle.byteorder.specs.Numbers.{big_number-reads_back}
use Rattle.wirebase.specs.Bytes.{part, splice}
use Rattle.wirebase.specs.ByteWriter.{be8, be16, fields}
use Rattle.wirebase.specs.Checksum.{sealed}
use Rattle.group_wire.specs.declared.family.Family.{Family}
use Rattle.group_wire.specs.declared.family.Kind.{Kind}
use Rattle.group_wire.specs.declared.membership.Message.{Message}
use Rattle.group_wire.specs.declared.query.Query.{Query}
use Rattle.group_wire.specs.declared.records.Records.{Records}
use Rattle.group_wire.specs.Family.{width, group_at, older_len, kind_number, kind_of}
use Rattle.group_wire.specs.Membership.{value_of, Value, older_query, query, oldest_report, older_report, leave, report}
use Rattle.group_wire.specs.Membership.{header, sqrv, source_count, text, text_len, checksum_field}
use Rattle.group_wire.specs.Membership.{kind_in, code_in, code_end, group_in}

-- ---- fields, one after another

pub fields-append : (xs ys : List (List ℕ)) → fields (xs ++ ys) ≡ fields xs ++ fields ys
unfolding fields
fields-append [] ys = refl
fields-append (x ∷ xs) ys =
    ap (λ (l : List ℕ). x ++ l) (fields-append xs ys) ∙ sym (append_assoc x (fields xs) (fields ys))

-- ---- what a message of one group begins with, a and b the bytes of its checksum

abbrev pub head : Family → Kind → ℕ → ℕ → ℕ → List ℕ
head Family.Igmp kind code a b = kind_number Family.Igmp kind ∷ code % 2 ^ 8 ∷ a ∷ b ∷ []
head Family.Mld kind code a b = kind_number Family.Mld kind ∷ 0 ∷ a ∷ b ∷ (big_bytes 2 code ++ 0 ∷ 0 ∷ [])

pub head_unsealed : (f : Family) (kind : Kind) (code : ℕ) → fields (header f kind code) ≡ head f kind code 0 0
unfolding fields be8 be16
head_unsealed Family.Igmp kind code = refl
head_unsealed Family.Mld kind code = refl

pub head_sealed : (f : Family) (kind : Kind) (code : ℕ) (rest : List ℕ) (extra : ℕ)
    → (a : ℕ) × (b : ℕ) × (sealed checksum_field (head f kind code 0 0 ++ rest) extra ≡ head f kind code a b ++ rest)
unfolding sealed splice
head_sealed Family.Igmp kind code rest extra = (_, _, refl)
head_sealed Family.Mld kind code rest extra = (_, _, refl)

pub length-head : (f : Family) (kind : Kind) (code a b : ℕ) → length (head f kind code a b) ≡ group_at f
length-head Family.Igmp kind code a b = refl
length-head Family.Mld kind code a b = refl

-- ---- reading behind it

module _ (f : Family) (kind : Kind) (code a b : ℕ) (group behind : List ℕ) (whole : length group ≡ width f) where
  abbrev front : List ℕ
  front = head f kind code a b ++ group

  length-front : length front ≡ older_len f
  length-front =
      omega (arith, length-append (head f kind code a b) group, length-head f kind code a b, whole)

  pub assoc : head f kind code a b ++ (group ++ behind) ≡ front ++ behind
  assoc = sym (append_assoc (head f kind code a b) group behind)

  pub length-message : length (head f kind code a b ++ (group ++ behind)) ≡ older_len f + length behind
  length-message = omega (arith, ap (λ (l : List ℕ). length l) assoc, length-append front behind, length-front)

  pub byte_behind : (k : ℕ) → slice_index (head f kind code a b ++ (group ++ behind)) (older_len f + k)
      ≡ slice_index behind k
  byte_behind k =
      ap (λ (l : List ℕ). slice_index l (older_len f + k)) assoc
      ∙ get_or-append_right front behind (older_len f) (older_len f + k) 0 length-front (omega arith)
      ∙ ap (λ (n : ℕ). slice_index behind n) (omega arith)

  pub drop_behind : (k : ℕ) → drop (older_len f + k) (head f kind code a b ++ (group ++ behind)) ≡ drop k behind
  drop_behind k =
      sym (drop-drop k (older_len f) (head f kind code a b ++ (group ++ behind)))
      ∙ ap (λ (l : List ℕ). drop k (drop (older_len f) l)) assoc
      ∙ ap (λ (l : List ℕ). drop k l) (drop_at front behind (older_len f) length-front)

  pub group_read : group ≡ group_in f (head f kind code a b ++ (group ++ behind))
  unfolding part
  group_read =
      let long : older_len f - group_at f ≡ width f = omega arith in
      sym (ap (λ (l : List ℕ). take (older_len f - group_at f) l)
      (drop_at (head f kind code a b) (group ++ behind) (group_at f) (length-head f kind code a b))
      ∙ ap (λ (n : ℕ). take n (group ++ behind)) long
      ∙ take_at group behind (width f) whole)

pub code_read : (f : Family) (kind : Kind) (code a b : ℕ) (rest : List ℕ) → code < code_end f
    → code ≡ code_in f (head f kind code a b ++ rest)
unfolding part
code_read Family.Igmp kind code a b rest small = omega (arith, small)
code_read Family.Mld kind code a b rest small = sym (big_number-reads_back 2 code [] (omega (arith, small)))

-- the kind of a type; MLD has one type of older report
abbrev pub oldest_kind : Family → Kind
oldest_kind Family.Igmp = Kind.OldestReport
oldest_kind Family.Mld = Kind.OlderReport

abbrev pub told_kind : Family → Kind → Kind
told_kind f Kind.Query = Kind.Query
told_kind f Kind.OldestReport = oldest_kind f
told_kind f Kind.OlderReport = Kind.OlderReport
told_kind f Kind.Leave = Kind.Leave
told_kind f Kind.Report = Kind.Report

pub kind_read : (f : Family) (kind : Kind) → kind_of f (kind_number f kind) ≡ Some (told_kind f kind)
kind_read Family.Igmp Kind.Query = refl
kind_read Family.Igmp Kind.OldestReport = refl
kind_read Family.Igmp Kind.OlderReport = refl
kind_read Family.Igmp Kind.Leave = refl
kind_read Family.Igmp Kind.Report = refl
kind_read Family.Mld Kind.Query = refl
kind_read Family.Mld Kind.OldestReport = refl
kind_read Family.Mld Kind.OlderReport = refl
kind_read Family.Mld Kind.Leave = refl
kind_read Family.Mld Kind.Report = refl

pub head_kind : (f : Family) (kind : Kind) (code a b : ℕ) (rest : List ℕ)
    → kind_in f (head f kind code a b ++ rest) ≡ kind_of f (kind_number f kind)
head_kind Family.Igmp kind code a b rest = refl
head_kind Family.Mld kind code a b rest = refl

-- ---- the texts

-- what a query has behind its group
abbrev pub query_rest : Family → Bool → ℕ → ℕ → List ℕ → List ℕ
query_rest f flag qrv qqic sources = sqrv flag qrv ∷ qqic ∷ (big_bytes 2 (source_count f sources) ++ sources)

-- the packet of a message, with these bytes as its checksum
abbrev pub shape : Family → Value → ℕ → ℕ → List ℕ
shape f (older_query code group) a b = head f Kind.Query code a b ++ (group ++ [])
shape f (query code group flag qrv qqic sources) a b =
    head f Kind.Query code a b ++ (group ++ query_rest f flag qrv qqic sources)
shape f (oldest_report group) a b = head f Kind.OldestReport 0 a b ++ (group ++ [])
shape f (older_report group) a b = head f Kind.OlderReport 0 a b ++ (group ++ [])
shape f (leave group) a b = head f Kind.Leave 0 a b ++ (group ++ [])
shape f (report count records) a b = kind_number f Kind.Report ∷ 0 ∷ a ∷ b ∷ 0 ∷ 0 ∷ (big_bytes 2 count ++ records)

group_text : (f : Family) (kind : Kind) (code : ℕ) (group : List ℕ)
    → fields (header f kind code ++ group ∷ []) ≡ head f kind code 0 0 ++ (group ++ [])
unfolding fields
group_text f kind code group =
    fields-append (header f kind code) (group ∷ [])
    ∙ ap (λ (l : List ℕ). l ++ (group ++ [])) (head_unsealed f kind code)

query_text : (f : Family) (code : ℕ) (group : List ℕ) (flag : Bool) (qrv qqic : ℕ) (sources : List ℕ)
    → text f (query code group flag qrv qqic sources)
    ≡ head f Kind.Query code 0 0 ++ (group ++ query_rest f flag qrv qqic sources)
unfolding fields be8 be16
query_text f code group flag qrv qqic sources =
    fields-append (header f Kind.Query code) (group ∷ be8 (sqrv flag qrv) ∷ be8 qqic
    ∷ be16 (source_count f sources) ∷ sources ∷ [])
    ∙ ap (λ (l : List ℕ). l ++ (group ++ (sqrv flag qrv ∷ qqic ∷ (big_bytes 2 (source_count f sources)
    ++ (sources ++ []))))) (head_unsealed f Kind.Query code)
    ∙ ap (λ (l : List ℕ). head f Kind.Query code 0 0 ++ (group ++ (sqrv flag qrv ∷ qqic
    ∷ (big_bytes 2 (source_count f sources) ++ l)))) (append-nil sources)

report_text : (f : Family) (count : ℕ) (records : List ℕ)
    → text f (report count records)
    ≡ kind_number f Kind.Report ∷ 0 ∷ 0 ∷ 0 ∷ 0 ∷ 0 ∷ (big_bytes 2 count ++ records)
unfolding fields be8 be16
report_text f count records =
    ap (λ (l : List ℕ). kind_number f Kind.Report ∷ 0 ∷ 0 ∷ 0 ∷ 0 ∷ 0 ∷ (big_bytes 2 count ++ l)) (append-nil records)

pub text-shape : (f : Family) (v : Value) → text f v ≡ shape f v 0 0
text-shape f (older_query code group) = group_text f Kind.Query code group
text-shape f (query code group flag qrv qqic sources) = query_text f code group flag qrv qqic sources
text-shape f (oldest_report group) = group_text f Kind.OldestReport 0 group
text-shape f (older_report group) = group_text f Kind.OlderReport 0 group
text-shape f (leave group) = group_text f Kind.Leave 0 group
text-shape f (report count records) = report_text f count records

pub shape-sealed : (f : Family) (v : Value) (extra : ℕ)
    → (a : ℕ) × (b : ℕ) × (sealed checksum_field (shape f v 0 0) extra ≡ shape f v a b)
unfolding sealed splice
shape-sealed f (older_query code group) extra = head_sealed f Kind.Query code (group ++ []) extra
shape-sealed f (query code group flag qrv qqic sources) extra =
    head_sealed f Kind.Query code (group ++ query_rest f flag qrv qqic sources) extra
shape-sealed f (oldest_report group) extra = head_sealed f Kind.OldestReport 0 (group ++ []) extra
shape-sealed f (older_report group) extra = head_sealed f Kind.OlderReport 0 (group ++ []) extra
shape-sealed f (leave group) extra = head_sealed f Kind.Leave 0 (group ++ []) extra
shape-sealed f (report count records) extra = (_, _, refl)

-- ---- their lengths

-- the group has the bytes of an address
abbrev pub HasGroup : Family → Value → Type 0
HasGroup f (older_query code group) = length group ≡ width f
HasGroup f (query code group flag qrv qqic sources) = length group ≡ width f
HasGroup f (oldest_report group) = length group ≡ width f
HasGroup f (older_report group) = length group ≡ width f
HasGroup f (leave group) = length group ≡ width f
HasGroup f (report count records) = Unit {0}

pub length-shape : (f : Family) (v : Value) (a b : ℕ) → HasGroup f v → length (shape f v a b) ≡ text_len f v
length-shape f (older_query code group) a b whole =
    omega (arith, length-message f Kind.Query code a b group [] whole)
length-shape f (query code group flag qrv qqic sources) a b whole =
    omega (arith, length-message f Kind.Query code a b group (query_rest f flag qrv qqic sources) whole)
length-shape f (oldest_report group) a b whole =
    omega (arith, length-message f Kind.OldestReport 0 a b group [] whole)
length-shape f (older_report group) a b whole =
    omega (arith, length-message f Kind.OlderReport 0 a b group [] whole)
length-shape f (leave group) a b whole = omega (arith, length-message f Kind.Leave 0 a b group [] whole)
length-shape f (report count records) a b whole = omega arith

pub length-text : (f : Family) (v : Value) → HasGroup f v → length (text f v) ≡ text_len f v
length-text f v whole = ap (λ (l : List ℕ). length l) (text-shape f v) ∙ length-shape f v 0 0 whole

-- a message has addresses alone
pub value_whole : {A : Type 0} (bytes : A → List ℕ) (f : Family) → ((a : A) → length (bytes a) ≡ width f)
    → (m : Message A (Query A) (Records A)) → HasGroup f (value_of bytes m)
value_whole bytes f whole (Message.OlderQuery code group) = whole group
value_whole bytes f whole (Message.Query q) = whole q.group
value_whole bytes f whole (Message.OldestReport group) = whole group
value_whole bytes f whole (Message.OlderReport group) = whole group
value_whole bytes f whole (Message.Leave group) = whole group
value_whole bytes f whole (Message.Report records) = tt
