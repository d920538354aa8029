-- What messages of DNS, of multicast DNS and of LLMNR say (RFC 1035 section 4.1, RFC 6762, RFC 4795).
use Rattle.std.specs.Prelude.{◌≡◌, ◌<◌, ◌≤◌, [], ◌∷◌, ◌++◌, List, Option, suc, zero, ℕ}
use Rattle.wirebase.specs.Bytes.{Reaches, number_of}
use Rattle.dns_wire.specs.DnsPacket.{header, payload_in, question_count_field, rcode_in}
use Rattle.dns_fields.specs.Header.{word_in}
use Rattle.record_wire.specs.NameCase.{lower_labels}
use Rattle.record_wire.specs.Names.{Names}
use Rattle.record_wire.specs.Record.{IsQuestion, QuestionValue}
use Rattle.packet_stats.specs.Row.{MentionValue, said_of}
use Rattle.packet_stats.specs.Subject.{octets_in, outcome, question, server}
use Rattle.packet_stats.specs.Types.{IpAddress}

-- ---- queries

-- a question, whose name is in lower case; nothing of one whose name is not read
pub data Asks (message : List ℕ) (q : QuestionValue) (ms : List MentionValue) : Type 0 where
  named : (labels : List (List ℕ)) → Names message q.name labels
      → ms ≡ said_of (question (lower_labels labels) q.kind) ∷ [] → Asks message q ms
  unnamed : ((labels : List (List ℕ)) → Names message q.name labels → ⊥) → ms ≡ [] → Asks message q ms

-- the first of some questions, and the others; or none can be read
pub data IsAsked (message bytes : List ℕ) (ms : List MentionValue) (Others : List ℕ → List MentionValue → Type 0)
    : Type 0 where
  next : (q : QuestionValue) (rest : List ℕ) (first others : List MentionValue) → IsQuestion bytes q rest
      → Asks message q first → Others rest others → ms ≡ first ++ others → IsAsked message bytes ms Others
  broken : ((q : QuestionValue) (rest : List ℕ) → IsQuestion bytes q rest → ⊥) → ms ≡ []
      → IsAsked message bytes ms Others

-- the questions of a message in turn, this many, or as many as can be read
abbrev pub AreAsked : List ℕ → ℕ → List ℕ → List MentionValue → Type 0
AreAsked message zero bytes ms = ms ≡ []
AreAsked message (suc n) bytes ms = IsAsked message bytes ms (AreAsked message n)

abbrev pub AreQuestions : List ℕ → List MentionValue → Type 0
AreQuestions message = AreAsked message (number_of question_count_field message) (payload_in message)

-- ---- responses

-- the outcome, and who responds after which time
abbrev pub response_of : IpAddress → Option ℕ → List ℕ → List MentionValue
response_of source after message =
    said_of (outcome (rcode_in (word_in message)))
    ∷ record { subject = server (octets_in source); after = after } ∷ []

-- ---- messages

-- What a message from an address says: a query its questions, and a response its outcome and its server. The top bit of
-- the flags tells which it is.
pub data DnsSays (source : IpAddress) (after : Option ℕ) (message : List ℕ) (ms : List MentionValue) : Type 0 where
  short : (Reaches header message → ⊥) → ms ≡ [] → DnsSays source after message ms
  asks : Reaches header message → word_in message < 0x8000 → AreQuestions message ms → DnsSays source after message ms
  responds : Reaches header message → 0x8000 ≤ word_in message → ms ≡ response_of source after message
      → DnsSays source after message ms
