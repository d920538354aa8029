-- A DNS query of one question (RFC 1035 section 4.1): a header with no outcome and no records, and then the question.
use Rattle.std.specs.Prelude.{◌≡◌, ◌+◌, ◌*◌, ◌≤◌, ◌<◌, ◌^◌, [], ◌∷◌, List, ℕ, length}
use Rattle.dns_wire.specs.Words.{Format, IsProper, Opcode, Reaches, RoundTrips, be16, fields, number_of, over}
use Rattle.dns_wire.specs.DnsTables.{opcode_number, opcode_rows, opcode_of, flag_bits, IsKnown}
use Rattle.dns_wire.specs.DnsPacket.{id_field, flags_field, question_count_field, answer_count_field}
use Rattle.dns_wire.specs.DnsPacket.{authority_count_field, additional_count_field, header, payload_in, flags_in}
use Rattle.dns_wire.specs.DnsPacket.{opcode_in}
use Rattle.dns_wire.specs.DnsQuestion as question
use Rattle.dns_wire.specs.DnsQuestion.{QuestionValue, IsQuestion, question_fields}
use Rattle.dns_wire.specs.declared.dns.repr.Repr.{Repr}

-- a query by its content; the flags are their bits
pub record QueryValue : Type 0 where
  pub transaction_id : ℕ
  pub kind : Opcode
  pub flags : ℕ
  pub asks : QuestionValue

abbrev pub value_of : Repr → QueryValue
value_of repr = record {
  transaction_id = repr.transaction_id;
  kind = repr.opcode;
  flags = flag_bits repr.flags;
  asks = question.value_of repr.question;
}

-- the word of flags: the kind of query is above the lowest eleven bits
abbrev pub flags_word : ℕ → Opcode → ℕ
flags_word flags kind = flags + 2048 * opcode_number kind

-- the text
abbrev pub query_fields : QueryValue → List (List ℕ)
query_fields query =
    be16 query.transaction_id ∷ be16 (flags_word query.flags query.kind)
    ∷ be16 1 ∷ be16 0
    ∷ be16 0 ∷ be16 0
    ∷ question_fields query.asks

abbrev pub text : QueryValue → List ℕ
text query = fields (query_fields query)

abbrev pub text_len : QueryValue → ℕ
text_len query = 12 + question.text_len query.asks

-- the requirements on a value that is written: its flags have a name, and the kind of query fits four bits
pub record CanEmit (query : QueryValue) (old : List ℕ) : Type 0 where
  pub known : IsKnown query.flags
  pub four_bits : opcode_number query.kind < 16
  pub room : text_len query ≤ length old

-- The grammar: a header of one question and no record, and then the question alone. The outcome and the bit that has no
-- name are not checked.
pub record IsQuery (bytes : List ℕ) (query : QueryValue) : Type 0 where
  pub whole : Reaches header bytes
  pub id : query.transaction_id ≡ number_of id_field bytes
  pub flags_are : query.flags ≡ flags_in (number_of flags_field bytes)
  pub kind_is : query.kind ≡ opcode_of (opcode_in (number_of flags_field bytes))
  pub one_question : number_of question_count_field bytes ≡ 1
  pub no_answer : number_of answer_count_field bytes ≡ 0
  pub no_authority : number_of authority_count_field bytes ≡ 0
  pub no_additional : number_of additional_count_field bytes ≡ 0
  pub asks : IsQuestion (payload_in bytes) query.asks []

-- a value that its own text gives back
pub record IsCanonical (query : QueryValue) : Type 0 where
  pub id : query.transaction_id < 2 ^ 16
  pub proper : IsProper Opcode.Unknown opcode_rows query.kind
  pub four_bits : opcode_number query.kind < 16
  pub known : IsKnown query.flags
  pub asks : question.IsCanonical query.asks
  pub small : text_len query ≤ 65535

-- the format; each value is its normal form, and none is an exception
abbrev pub format : Format QueryValue
format = record {
  Reads = IsQuery;
  Fills = Unit {0};
  text = text;
  IsCanonical = IsCanonical;
  IsException = λ query. ⊥;
  norm = λ query. query;
  IsCut = λ query. ⊥;
}

-- What writing over `old` leaves: the text of the query over the front. Where `old` has exactly the text's length, it
-- is all that is left.
pub record Emits (query : QueryValue) (old new : List ℕ) : Type 0 where
  pub written : new ≡ over old (text query)
  pub exact : length old ≡ text_len query → new ≡ text query
  pub reads_back : IsCanonical query → length old ≡ text_len query → IsQuery new query
  pub round_trips : RoundTrips format query
