-- The text of a question, and what is read in it.
use Rattle.dns_wire.proofs.Words.{◌≡◌, ◌<◌, ◌≤◌, ◌^◌, [], ◌∷◌, ◌++◌, ◌∙◌, Bool, IsBytes, IsBytes-drop, IsFormat}
use Rattle.dns_wire.proofs.Words.{IsProper, List, QuestionValue, SameText, ℕ, ap, append-nil, append_assoc, arith, be16}
use Rattle.dns_wire.proofs.Words.{big_bytes, case-read, case_in-unnamed, drop, drop_at, false, fields, length}
use Rattle.dns_wire.proofs.Words.{length-append, number_of, number_of-small, over, over-exact, part, refl, round_trips}
use Rattle.dns_wire.proofs.Words.{same_text, subst, sym, true}
use Rattle.wirebase.specs.Format.{Rewrites}
use Rattle.wirebase.proofs.Pieces.{over-fits}
use Rattle.dns_wire.specs.declared.dns.tables.Type.{«Type» as RecordType}
use Rattle.dns_wire.specs.DnsTables.{type_number, types, type_rows, type_of}
use Rattle.dns_wire.specs.DnsQuestion.{type_field, IsQuestion, text, text_len, IsCanonical, format, Emits}
use Rattle.dns_wire.proofs.DnsSplit.{split_one}

-- ---- types of record

is_unknown_type : RecordType → Bool
is_unknown_type (RecordType.Unknown n) = true
is_unknown_type _ = false

pub type_of-number : (t : RecordType) → IsProper RecordType.Unknown type_rows t → t ≡ type_of (type_number t)
type_of-number (RecordType.Unknown n) p = sym (case_in-unnamed RecordType.Unknown type_rows n (p n refl))
type_of-number _ p = refl

type-read : {t : RecordType} (n : ℕ) → t ≡ type_of n → IsProper RecordType.Unknown type_rows t × (type_number t ≡ n)
unfolding is_unknown_type
type-read n is = case-read type_number RecordType.Unknown (λ k. refl) is_unknown_type (λ k. refl) types n refl is

-- ---- the text

pub question_text : (q : QuestionValue) → text q ≡ q.name ++ (big_bytes 2 (type_number q.kind) ++ (0 ∷ 1 ∷ []))
unfolding fields be16
question_text q = simp append-nil

pub length-question_text : (q : QuestionValue) → length (text q) ≡ text_len q
length-question_text q =
    ap length (question_text q) ∙ length-append q.name (big_bytes 2 (type_number q.kind) ++ (0 ∷ 1 ∷ []))

type_back : (n : ℕ) (behind : List ℕ) → n < 2 ^ 16 → n ≡ number_of type_field (big_bytes 2 n ++ behind)
unfolding part
type_back n behind small = omega arith

-- a question that is followed by a rest
pub question_reads : (q : QuestionValue) (bytes rest : List ℕ) → IsCanonical q → bytes ≡ text q ++ rest
    → IsQuestion bytes q rest
unfolding part
question_reads q bytes rest c e =
    let is : bytes ≡ q.name ++ (big_bytes 2 (type_number q.kind) ++ (0 ∷ 1 ∷ rest)) =
    e ∙ (ap (λ t. t ++ rest) (question_text q) ∙ append_assoc q.name
    (big_bytes 2 (type_number q.kind) ++ (0 ∷ 1 ∷ [])) rest) in
    record {
      after = big_bytes 2 (type_number q.kind) ++ (0 ∷ 1 ∷ rest);
      split = record { name_is = c.name_is; whole = is };
      passes = (omega arith, (refl, tt));
      kind_is = type_of-number q.kind c.proper ∙ ap type_of (type_back (type_number q.kind) (0 ∷ 1 ∷ rest) c.fits);
      rest_is = refl;
    }

-- ---- one value

abbrev question_of : List ℕ → RecordType → QuestionValue
question_of n t = record { name = n; kind = t }

pub question_one : (bytes : List ℕ) (v w : QuestionValue) (rest other : List ℕ) → IsQuestion bytes v rest
    → IsQuestion bytes w other → (v ≡ w) × (rest ≡ other)
question_one bytes v w rest other h k =
    let one = split_one bytes v.name w.name h.after k.after h.split k.split in
    let kinds : v.kind ≡ w.kind = h.kind_is ∙ (ap (λ t. type_of (number_of type_field t)) one.1 ∙ sym k.kind_is) in (
      ap (λ n. question_of n v.kind) one.0 ∙ ap (λ t. question_of w.name t) kinds,
      h.rest_is ∙ (ap (λ t. drop 4 t) one.1 ∙ sym k.rest_is),
    )

-- ---- what was read

pub question_accepted : (bytes : List ℕ) (v : QuestionValue) (rest : List ℕ) → IsBytes bytes → length bytes ≤ 65535
    → IsQuestion bytes v rest → IsCanonical v
question_accepted bytes v rest are small h =
    let read = type-read (number_of type_field h.after) h.kind_is in
    let behind : IsBytes h.after =
    subst IsBytes (ap (λ t. drop (length v.name) t) h.split.whole ∙ drop_at v.name h.after (length v.name) refl)
    (IsBytes-drop (length v.name) bytes are) in
    record {
      name_is = h.split.name_is;
      proper = read.0;
      fits = omega (arith, read.1, number_of-small 0 2 h.after refl behind);
      small = omega (arith, small, ap length h.split.whole, length-append v.name h.after, h.passes.0);
    }

pub question_format : IsFormat format
question_format = record {
  one_value = λ bytes v w h k. (question_one bytes v w [] [] h k).0;
  reads_back = λ v fills c. question_reads v (text v) [] c (sym (append-nil (text v)));
  norm_canonical = λ v c. c;
  norm_norm = λ v. refl;
  norm_text = λ v c regular. refl;
  accepted = λ bytes v are small h. question_accepted bytes v [] are (omega arith) h;
  regular = λ bytes v h e. e;
  kept = λ bytes v are c h whole. refl;
}

pub question_rewrites : (bytes : List ℕ) (v : QuestionValue) (rest : List ℕ) → IsBytes bytes → length bytes ≤ 65515
    → IsQuestion bytes v rest → Rewrites format v
question_rewrites bytes v rest are small h =
    let c = question_accepted bytes v rest are (omega arith) h in
    record {
      canonical = c;
      regular = λ e. e;
      reads_back = λ fills. question_reads v (text v) [] c (sym (append-nil (text v)));
      same_text = refl;
      same_value = λ whole. refl;
    }

pub question_same_text : (a b : QuestionValue) → SameText format a b
question_same_text a b = same_text format question_format _ a b

-- ---- the result of writing

pub question_emits : (q : QuestionValue) (old new : List ℕ) → text_len q ≤ length old → new ≡ over old (text q)
    → Emits q old new
question_emits q old new room e = record {
  written = e;
  exact = λ long. e ∙ over-exact old (text q) (long ∙ sym (length-question_text q));
  reads_back =
      λ c. question_reads q new (drop (text_len q) old) c
      (e ∙ over-fits old (text q) (omega (arith, room, length-question_text q))
      ∙ ap (λ n. text q ++ drop n old) (length-question_text q));
  round_trips = round_trips format question_format q;
}
