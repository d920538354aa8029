-- Records of reports: their texts, what is read in them, and their format.
use Rattle.std.proofs.Common.{◌≡◌, ℕ, ◌<◌, ◌^◌, Bool, true, false, List, [], ◌∷◌, ◌++◌, length, refl}
use Rattle.std.proofs.Common.{sym, ap, ◌∙◌, arith, Result, IfOk}
use Rattle.std.proofs.lemmas.List.{append-nil, take_all, drop_all, nil_from_length}
use Rattle.byteorder.specs.Endian.{big_bytes}
use Rattle.byteorder.specs.Numbers.{big_number-reads_back}
use Rattle.std.proofs.lemmas.Result.{IfOk-weaker}
use Rattle.icmp6_wire.specs.Words.{IsBytes, part, byte_of, over, be8, be16, fields, Rewrites, SameText, octets_of}
use Rattle.icmp6_wire.specs.Words.{IsMulticast, IsProper, Ipv6Address, RecordType}
use Rattle.wirebase.proofs.ByteParts.{number_of-small}
use Rattle.wirebase.proofs.Format.{IsFormat, same_text}
use Rattle.wirebase.proofs.Ipv6Header.{same_address}
use Rattle.wirebase.proofs.Pieces.{over-exact}
use Rattle.wirebase.proofs.Numbered.{case_in-unnamed, case-read}
use Rattle.icmp6_wire.specs.MldTables.{record_type_number, record_types, record_type_rows, record_type_of}
use Rattle.icmp6_wire.specs.MldRecord.{RecordValue, address_record, record_type_field, text, group_of, IsFields}
use Rattle.icmp6_wire.specs.MldRecord.{IsRecord, IsCanonical, norm, IsCut, IsGroupRecord, format}

-- ---- the text

pub record_text : (kind : RecordType) (words sources : ℕ) (group : Ipv6Address) (rest : List ℕ)
    → text (address_record kind words sources group rest) ≡ record_type_number kind ∷ words
    ∷ (big_bytes 2 sources ++ octets_of group)
unfolding fields be8 be16
record_text kind words sources group rest = simp append-nil

pub length-text : (v : RecordValue) → length (text v) ≡ 20
length-text (address_record kind words sources group rest) =
    omega (arith, ap length (record_text kind words sources group rest), group.whole)

-- a record in octets of exactly its length
pub over-record_whole : (old : List ℕ) (v : RecordValue) → length old ≡ 20 → over old (text v) ≡ text v
over-record_whole old v whole = over-exact old (text v) (whole ∙ sym (length-text v))

pub ruleset record_texts = (length-text, over-record_whole)

-- ---- reading what was written

pub record_type_of-number : (kind : RecordType) → IsProper RecordType.Unknown record_type_rows kind
    → kind ≡ record_type_of (record_type_number kind)
record_type_of-number (RecordType.Unknown n) p =
    sym (case_in-unnamed RecordType.Unknown record_type_rows n (p n refl))
record_type_of-number _ p = refl

fields_read : (kind : RecordType) (words sources : ℕ) (group : Ipv6Address)
    → IsProper RecordType.Unknown record_type_rows kind → sources < 2 ^ 16
    → IsFields (record_type_number kind ∷ words ∷ (big_bytes 2 sources ++ octets_of group)) kind words sources group []
unfolding part
fields_read kind words sources group proper small = record {
  passes = (omega (arith, group.whole), tt);
  kind_is = record_type_of-number kind proper;
  words_are = refl;
  sources_are = sym (big_number-reads_back 2 sources [] (omega (arith, small)));
  group_is = sym (take_all 16 (octets_of group) (omega (arith, group.whole)));
  rest_is = sym (drop_all 16 (octets_of group) (omega (arith, group.whole)));
}

record_read : (v : RecordValue) → IsCanonical v → IsGroupRecord (text v) (norm v)
record_read (address_record kind words sources group rest) c = (
  rw (record_text kind words sources group rest) (fields_read kind words sources group c.0 c.3),
  c.4,
)

-- bytes begin with one record at most
pub record-one : (bytes : List ℕ) (v w : RecordValue) → IsRecord bytes v → IsRecord bytes w → v ≡ w
record-one bytes (address_record kind words sources group rest) (address_record other more many another behind) a b =
    let one = a.kind_is ∙ sym b.kind_is in
    let two = a.words_are ∙ sym b.words_are in
    let three = a.sources_are ∙ sym b.sources_are in
    let four = same_address group another (a.group_is ∙ sym b.group_is) in
    let five = a.rest_is ∙ sym b.rest_is in
    cc

-- ---- what was read

is_unknown : RecordType → Bool
is_unknown (RecordType.Unknown n) = true
is_unknown _ = false

record-canonical : (bytes : List ℕ) (v : RecordValue) → IsBytes bytes → IsGroupRecord bytes v → IsCanonical v
unfolding is_unknown
record-canonical bytes (address_record kind words sources group rest) are m =
    let read =
    case-read record_type_number RecordType.Unknown (λ k. refl) is_unknown (λ k. refl) record_types
    (byte_of record_type_field bytes) refl m.0.kind_is in (
      read.0,
      omega (arith, read.1, are 0),
      omega (arith, m.0.words_are, are 1),
      omega (arith, m.0.sources_are, number_of-small 2 4 bytes refl are),
      m.1,
    )

-- ---- the format

norm-canonical : (v : RecordValue) → IsCanonical v → IsCanonical (norm v)
norm-canonical (address_record kind words sources group rest) c = c

norm-norm : (v : RecordValue) → norm (norm v) ≡ norm v
norm-norm (address_record kind words sources group rest) = refl

norm-text : (v : RecordValue) → text (norm v) ≡ text v
norm-text (address_record kind words sources group rest) = refl

nothing : (rest : List ℕ) → (0 < length rest → ⊥) → length rest ≡ 0
nothing rest uncut = grind (arith, uncut)

norm-uncut : (v : RecordValue) → (IsCut v → ⊥) → norm v ≡ v
norm-uncut (address_record kind words sources group rest) uncut =
    ap (λ (l : List ℕ). address_record kind words sources group l) (sym (nil_from_length rest (nothing rest uncut)))

pub record_format : IsFormat format
record_format = record {
  one_value = λ bytes v w a b. record-one bytes v w a.0 b.0;
  reads_back = λ v fills c. record_read v c;
  norm_canonical = norm-canonical;
  norm_norm = norm-norm;
  norm_text = λ v c regular. norm-text v;
  accepted = λ bytes v are small m. record-canonical bytes v are m;
  regular = λ bytes v m e. e;
  kept = λ bytes v are c m uncut. norm-uncut v uncut;
}

pub record_same_text : (a b : RecordValue) → SameText format a b
record_same_text a b = same_text format record_format tt a b

-- what a parser promises of a record, where its address is multicast: it is canonical, whatever follows its fields
pub record_rewrites : (bytes : List ℕ) (v : RecordValue) → IsBytes bytes → IsRecord bytes v → IsMulticast (group_of v)
    → Rewrites format v
record_rewrites bytes v are is group =
    let canonical = record-canonical bytes v are (is, group) in
    record {
      canonical = canonical;
      regular = λ e. e;
      reads_back = λ fills. record_read v canonical;
      same_text = norm-text v;
      same_value = norm-uncut v;
    }

pub all_record_rewrites : {T E : Type 0} (value : T → RecordValue) (bytes : List ℕ) (result : Result T E)
    → IsBytes bytes → IfOk result (λ x. IsRecord bytes (value x))
    → IfOk result (λ x. IsMulticast (group_of (value x)) → Rewrites format (value x))
all_record_rewrites value bytes result are sound =
    IfOk-weaker result (λ x. IsRecord bytes (value x))
    (λ x. IsMulticast (group_of (value x)) → Rewrites format (value x))
    (λ x is. record_rewrites bytes (value x) are is) sound
