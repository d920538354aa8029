-- What a resolver asks, which responses it takes, and which addresses it finds there (RFC 1035 section 4).
use Rattle.std.specs.Prelude.{◌≡◌, ◌≢◌, ℕ, ◌+◌, ◌==◌, Bool, true, false, ◌↔◌, List, map, IsTrue, IsFalse}
use Rattle.std.specs.Int.Bits.{bit_and}
use Rattle.std.specs.Str.{str_to_ascii_lowercase}
use Rattle.control_wire.specs.Bytes.{Reaches, number_of}
use Rattle.control_wire.specs.DnsTables.{opcode_of, rcode_of}
use Rattle.control_wire.specs.DnsPacket.{id_field, flags_field, question_count_field, answer_count_field, header}
use Rattle.control_wire.specs.DnsPacket.{payload_in, flags_in, opcode_in, rcode_in}
use Rattle.control_wire.specs.DnsName.{IsName}
use Rattle.control_wire.specs.DnsQuestion.{IsQuestion}
use Rattle.control_wire.specs.DnsRecord.{DataValue, address4, address6, canonical_name, RecordValue, IsRecord}
use Rattle.control_wire.specs.DnsRepr.{QueryValue}
use Rattle.control_wire.specs.DnsOpcodeType.TheVariants as opcode
use Rattle.control_wire.specs.DnsRcodeType.{Rcode}
use Rattle.control_wire.specs.DnsRcodeType.TheVariants as rcode
use Rattle.control_wire.specs.DnsTypeType.{«Type» as RecordType}
use Rattle.control_wire.specs.DnsTypeType.TheVariants as kind
use Rattle.examples.specs.declared.resolver.Address.TheVariants.{V4, V6}
use Rattle.examples.specs.declared.resolver.AddressRecord.{AddressRecord}
use Rattle.examples.specs.declared.resolver.Answers.{Answers}
use Rattle.examples.specs.declared.resolver.Response.{Response}
use Rattle.examples.specs.declared.resolver.Response.TheVariants.{Whole, Truncated, Failed}

-- ---- the query

-- a standard query for the records of a type at a name, which the server is to follow itself
abbrev pub query_for : ℕ → List ℕ → RecordType → QueryValue
query_for id name asked = record {
  transaction_id = id;
  kind = opcode.Query;
  flags = 0x0100;
  asks = record { name = name; kind = asked };
}

-- ---- names

-- labels with each letter of ASCII as a small one
abbrev pub lowered : List (List ℕ) → List (List ℕ)
lowered labels = map str_to_ascii_lowercase labels

-- Two names of a message are equal where their labels are, letters of ASCII in either case (RFC 1035 section 2.3.3, RFC
-- 4343).
pub record AreSameName (message a b : List ℕ) : Type 0 where
  pub left : List (List ℕ)
  pub right : List (List ℕ)
  pub left_is : IsName a message left
  pub right_is : IsName b message right
  pub same : lowered left ≡ lowered right

-- ---- the response

-- The flags have RESPONSE, and TRUNCATED.
abbrev pub responds : ℕ → Bool
responds flags = bit_and flags 0x8000 == 0x8000

abbrev pub truncates : ℕ → Bool
truncates flags = bit_and flags 0x0200 == 0x0200

-- The question of a message has this type and this name. The rest follows it.
pub record Asks (message name : List ℕ) (asked : RecordType) (rest : List ℕ) : Type 0 where
  pub written : List ℕ
  pub question : IsQuestion (payload_in message) (record { name = written; kind = asked }) rest
  pub same : AreSameName message written name

-- A header is that of the response to a query: it has the query's number, and counts one question.
pub record Responds (message : List ℕ) (id : ℕ) : Type 0 where
  pub id_is : number_of id_field message ≡ id
  pub response : IsTrue (responds (flags_in (number_of flags_field message)))
  pub standard : opcode_of (opcode_in (number_of flags_field message)) ≡ opcode.Query
  pub one_question : number_of question_count_field message ≡ 1

-- A message is the response to a query, and its question is the one that was asked.
pub record IsResponse (message : List ℕ) (id : ℕ) (name : List ℕ) (asked : RecordType) (rest : List ℕ) : Type 0 where
  pub whole : Reaches header message
  pub header : Responds message id
  pub asks : Asks message name asked rest

-- the outcome of the query, and whether the response was cut to what a datagram takes (RFC 1035 section 4.1.1)
abbrev pub outcome : List ℕ → Rcode
outcome message = rcode_of (rcode_in (number_of flags_field message))

abbrev pub is_truncated : List ℕ → Bool
is_truncated message = truncates (flags_in (number_of flags_field message))

-- All that is to be read of the response to a query: as many records as it counts follow the question, and the
-- addresses of the type and the name that were asked for are sought.
pub record AreAnswers (message : List ℕ) (id : ℕ) (name : List ℕ) (asked : RecordType) (answers : Answers)
    : Type 0 where
  pub response : IsResponse message id name asked answers.bytes.now
  pub succeeded : outcome message ≡ rcode.NoError
  pub message_is : answers.message.now ≡ message
  pub name_is : answers.name.now ≡ name
  pub type_is : answers.type_ ≡ asked
  pub left_is : answers.left ≡ number_of answer_count_field message

-- The message is the response to a query, and its outcome is a failure.
pub record IsFailure (message : List ℕ) (id : ℕ) (name : List ℕ) (asked : RecordType) (code : Rcode) : Type 0 where
  pub rest : List ℕ
  pub response : IsResponse message id name asked rest
  pub code_is : code ≡ outcome message
  pub failed : code ≢ rcode.NoError

-- what a response tells: all answers, as many of them as fit, or how the query failed
abbrev pub Tells : List ℕ → ℕ → List ℕ → RecordType → Response → Type 0
Tells message id name asked (Whole answers) = AreAnswers message id name asked answers × IsFalse (is_truncated message)
Tells message id name asked (Truncated answers) =
    AreAnswers message id name asked answers × IsTrue (is_truncated message)
Tells message id name asked (Failed code) = IsFailure message id name asked code

-- ---- its answers

-- what is still to be read: this many records are at the start of the bytes, and a name's addresses are sought
pub record Search : Type 0 where
  pub name : List ℕ
  pub left : ℕ
  pub bytes : List ℕ

abbrev pub search_of : Answers → Search
search_of answers = record { name = answers.name.now; left = answers.left; bytes = answers.bytes.now }

-- what a record gives in a search for a name's addresses: an address, or the name to continue with
pub data TurnValue : Type 0 where
  found : AddressRecord → TurnValue
  sought : List ℕ → TurnValue

-- A record of the name gives its address, where it has the type that was asked for, or the name of which it is an
-- alias.
abbrev pub said : RecordType → List ℕ → ℕ → DataValue → TurnValue
said kind.A name ttl (address4 address) = found (record { address = V4 address; ttl = ttl })
said kind.Aaaa name ttl (address6 address) = found (record { address = V6 address; ttl = ttl })
said asked name ttl (canonical_name alias_of) = sought alias_of
said asked name ttl holds = sought name

-- a record of another name gives nothing
abbrev pub said_of : Bool → RecordType → List ℕ → RecordValue → TurnValue
said_of false asked name r = sought name
said_of true asked name r = said asked name r.ttl r.holds

pub record Says (message : List ℕ) (asked : RecordType) (name : List ℕ) (r : RecordValue) (turn : TurnValue)
    : Type 0 where
  pub same : Bool
  pub same_is : IsTrue same ↔ AreSameName message r.name name
  pub is : turn ≡ said_of same asked name r

-- A search finds an address, and this is left to read after it: the first record gives the address, or it gives the
-- name to continue with, and the search for that name in the records after it finds the address.
pub data Finds (message : List ℕ) (asked : RecordType) (address : AddressRecord) (after : Search)
    : Search → Type 0 where
  here : {now : Search} (r : RecordValue) → now.left ≡ after.left + 1 → IsRecord now.bytes r after.bytes
      → Says message asked now.name r (found address) → after.name ≡ now.name → Finds message asked address after now
  later : {now : Search} (r : RecordValue) (name : List ℕ) (left : ℕ) (rest : List ℕ) → now.left ≡ left + 1
      → IsRecord now.bytes r rest → Says message asked now.name r (sought name)
      → Finds message asked address after (record { name = name; left = left; bytes = rest })
      → Finds message asked address after now
