-- A name is followed by one question and one record, and as many bytes are left.
use Rattle.record_wire.proofs.Words.{◌≡◌, ◌≤◌, ◌∙◌, HasQuestion, HasRecord, IsQuestion, IsSplit, List, QuestionValue}
use Rattle.record_wire.proofs.Words.{RecordValue, ℕ, ap, drop, length, number_of, refl, sym, take, type_of}
use Rattle.dns_wire.specs.declared.dns.tables.Type.{«Type» as RecordType}
use Rattle.dns_wire.specs.DnsQuestion.{type_field, class_field}
use Rattle.dns_wire.specs.DnsRecord.{ttl_field}
use Rattle.record_wire.specs.Record.{data_len}

-- ---- questions

abbrev question_at : List ℕ → RecordType → ℕ → QuestionValue
question_at name kind class = record { name = name; kind = kind; class = class }

same_question : (q r : QuestionValue) → q.name ≡ r.name → q.kind ≡ r.kind → q.class ≡ r.class → q ≡ r
same_question q r e f g =
    ap (λ (n : List ℕ). question_at n q.kind q.class) e
    ∙ (ap (λ (k : RecordType). question_at r.name k q.class) f ∙ ap (λ (c : ℕ). question_at r.name r.kind c) g)

-- two questions after one name
pub question_one : (bytes : List ℕ) (q r : QuestionValue) (rest more : List ℕ) (a : IsQuestion bytes q rest)
    (b : IsQuestion bytes r more) → q.name ≡ r.name → a.after ≡ b.after → (q ≡ r) × (rest ≡ more)
question_one bytes q r rest more a b name after = (
  same_question q r name
      (a.kind_is ∙ (ap (λ (t : List ℕ). type_of (number_of type_field t)) after ∙ sym b.kind_is))
      (a.class_is ∙ (ap (λ (t : List ℕ). number_of class_field t) after ∙ sym b.class_is)),
  a.rest_is ∙ (ap (λ (t : List ℕ). drop 4 t) after ∙ sym b.rest_is),
)

-- ---- records

abbrev record_at : List ℕ → RecordType → ℕ → ℕ → List ℕ → RecordValue
record_at name kind class ttl bytes =
    record { name = name; kind = kind; class = class; ttl = ttl; «data» = bytes }

-- ---- octets that begin with a name and have the fields after it

pub question_here : (bytes name after : List ℕ) → IsSplit bytes name after → 4 ≤ length after → HasQuestion bytes
question_here bytes name after split fits = (
  question_at name (type_of (number_of type_field after)) (number_of class_field after),
  drop 4 after,
  record {
    after = after;
    name_is = split.name_is;
    whole = split.whole;
    reaches = fits;
    kind_is = refl;
    class_is = refl;
    rest_is = refl;
  },
)

pub record_here : (bytes name after : List ℕ) → IsSplit bytes name after → 10 ≤ length after
    → data_len after ≤ length (drop 10 after) → HasRecord bytes
record_here bytes name after split fits data_fits = (
  record_at name (type_of (number_of type_field after)) (number_of class_field after) (number_of ttl_field after)
      (take (data_len after) (drop 10 after)),
  drop (data_len after) (drop 10 after),
  record {
    after = after;
    name_is = split.name_is;
    whole = split.whole;
    behind = record {
      reaches = fits;
      kind_is = refl;
      class_is = refl;
      ttl_is = refl;
      fits = data_fits;
      data_is = refl;
      rest_is = refl;
    };
  },
)
