-- The question of a DNS message (RFC 1035 section 4.1.2).
--
-- +- - - - - - - - - - - - - - - - - - - - - - - - -
-- | name, one part
-- +-------------------------------+-------------------------------+
-- |             type              |             class             |
-- +-------------------------------+-------------------------------+
use Rattle.std.specs.Prelude.{◌≡◌, ◌+◌, ◌≤◌, ◌<◌, ◌^◌, [], ◌∷◌, List, ℕ, drop, length}
use Rattle.dns_wire.specs.Words.{Check, Field, Format, IsProper, Passes, Reaches, Refusal, RoundTrips, be16, check}
use Rattle.dns_wire.specs.Words.{field, fields, number_of, over}
use Rattle.dns_wire.specs.DnsTables.{type_number, type_rows, type_of}
use Rattle.dns_wire.specs.DnsName.{IsOnePart}
use Rattle.dns_wire.specs.DnsPart.{IsSplit}
use Rattle.dns_wire.specs.declared.dns.tables.Type.{«Type» as RecordType}
use Rattle.dns_wire.specs.declared.dns.question.Question.{Question}

-- the fields after the name
abbrev pub type_field : Field
type_field = field 0 2

abbrev pub class_field : Field
class_field = field 2 4

-- the class of the internet (RFC 1035 section 3.2.4)
abbrev pub internet : ℕ
internet = 1

-- a question by its content
pub record QuestionValue : Type 0 where
  pub name : List ℕ
  pub kind : RecordType

abbrev pub value_of : Question → QuestionValue
value_of question = record { name = question.name.now; kind = question.type_ }

-- the checks of the bytes after the name, in their order
abbrev pub question_checks : List ℕ → List (Check Refusal)
question_checks after =
    check (Reaches class_field after) Refusal.Short
    ∷ check (number_of class_field after ≡ internet) (Refusal.Class (number_of class_field after))
    ∷ []

-- The grammar: these bytes are a name of one part, then a type and the class of the internet, and then a rest.
pub record IsQuestion (bytes : List ℕ) (question : QuestionValue) (rest : List ℕ) : Type 0 where
  pub after : List ℕ
  pub split : IsSplit bytes question.name after
  pub passes : Passes (question_checks after)
  pub kind_is : question.kind ≡ type_of (number_of type_field after)
  pub rest_is : rest ≡ drop 4 after

-- the text
abbrev pub question_fields : QuestionValue → List (List ℕ)
question_fields question = question.name ∷ be16 (type_number question.kind) ∷ be16 internet ∷ []

abbrev pub text : QuestionValue → List ℕ
text question = fields (question_fields question)

abbrev pub text_len : QuestionValue → ℕ
text_len question = length question.name + 4

-- a value that its own text gives back: the name is one part, the type is a number of two bytes and is not the
-- unknown type of a number that has a name, and a packet holds it
pub record IsCanonical (question : QuestionValue) : Type 0 where
  pub name_is : IsOnePart question.name
  pub proper : IsProper RecordType.Unknown type_rows question.kind
  pub fits : type_number question.kind < 2 ^ 16
  pub small : text_len question ≤ 65535

-- the format; each value is its normal form, and none is an exception
abbrev pub format : Format QuestionValue
format = record {
  Reads = λ bytes question. IsQuestion bytes question [];
  Fills = Unit {0};
  text = text;
  IsCanonical = IsCanonical;
  IsException = λ question. ⊥;
  norm = λ question. question;
  IsCut = λ question. ⊥;
}

-- What writing over `old` leaves: the text of the question over the front. Where `old` has exactly the text's length,
-- it is all that is left.
pub record Emits (question : QuestionValue) (old new : List ℕ) : Type 0 where
  pub written : new ≡ over old (text question)
  pub exact : length old ≡ text_len question → new ≡ text question
  pub reads_back : IsCanonical question → IsQuestion new question (drop (text_len question) old)
  pub round_trips : RoundTrips format question
