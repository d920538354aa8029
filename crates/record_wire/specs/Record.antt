-- Questions and resource records of any type and class (RFC 1035 sections 4.1.2 and 4.1.3): a name of one part, and
-- after it
--
-- +-------------------------------+-------------------------------+
-- |             type              |             class             |
-- +-------------------------------+-------------------------------+
-- |                 time to live, in seconds                      |
-- +-------------------------------+-------------------------------+
-- |        length of data         | data
-- +-------------------------------+- - - - - - - - -
--
-- of which a question has the type and the class alone.
use Rattle.std.specs.Prelude.{◌≡◌, ◌≤◌, ◌++◌, List, ℕ, drop, length, take}
use Rattle.record_wire.specs.Words.{IsOnePart, Reaches, length_field, number_of, type_of}
use Rattle.dns_wire.specs.DnsQuestion.{type_field, class_field}
use Rattle.dns_wire.specs.DnsRecord.{ttl_field}
use Rattle.dns_wire.specs.declared.dns.tables.Type.{«Type» as RecordType}
use Rattle.record_wire.specs.declared.record.Question.{Question}
use Rattle.record_wire.specs.declared.record.Record.{Record}

-- ---- questions

-- a question by its content
pub record QuestionValue : Type 0 where
  pub name : List ℕ
  pub kind : RecordType
  pub class : ℕ

abbrev pub question_of : Question → QuestionValue
question_of question = record { name = question.name.now; kind = question.type_; class = question.class }

-- The grammar: these bytes are a name of one part, a type and a class, followed by a rest.
pub record IsQuestion (bytes : List ℕ) (question : QuestionValue) (rest : List ℕ) : Type 0 where
  pub after : List ℕ
  pub name_is : IsOnePart question.name
  pub whole : bytes ≡ question.name ++ after
  pub reaches : Reaches class_field after
  pub kind_is : question.kind ≡ type_of (number_of type_field after)
  pub class_is : question.class ≡ number_of class_field after
  pub rest_is : rest ≡ drop 4 after

-- ---- records

-- a record by its content; the time to live is in seconds
pub record RecordValue : Type 0 where
  pub name : List ℕ
  pub kind : RecordType
  pub class : ℕ
  pub ttl : ℕ
  pub «data» : List ℕ

abbrev pub record_of : Record → RecordValue
record_of r = record {
  name = r.name.now;
  kind = r.type_;
  class = r.class;
  ttl = r.ttl;
  «data» = r.«data».now;
}

-- the number of bytes of data
abbrev pub data_len : List ℕ → ℕ
data_len after = number_of length_field after

-- what follows the name of a record
pub record IsBehindName (after : List ℕ) (r : RecordValue) (rest : List ℕ) : Type 0 where
  pub reaches : Reaches length_field after
  pub kind_is : r.kind ≡ type_of (number_of type_field after)
  pub class_is : r.class ≡ number_of class_field after
  pub ttl_is : r.ttl ≡ number_of ttl_field after
  pub fits : data_len after ≤ length (drop 10 after)
  pub data_is : r.«data» ≡ take (data_len after) (drop 10 after)
  pub rest_is : rest ≡ drop (data_len after) (drop 10 after)

-- The grammar: these bytes are a name of one part, the fields after the name of this record, and its data, followed by
-- a rest.
pub record IsRecord (bytes : List ℕ) (r : RecordValue) (rest : List ℕ) : Type 0 where
  pub after : List ℕ
  pub name_is : IsOnePart r.name
  pub whole : bytes ≡ r.name ++ after
  pub behind : IsBehindName after r rest
