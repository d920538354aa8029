-- Questions and answers.
use Rattle.std.specs.Prelude.{None, Option, Some}
use Rattle.packet_pairs.specs.Key.{KeyValue, back, key_of}
use Rattle.packet_pairs.specs.Types.{Exchange, Role, Way}

-- a question or an answer, by its content
pub record ExchangeValue : Type 0 where
  pub role : Role
  pub key : KeyValue

abbrev pub exchange_of : Exchange → ExchangeValue
exchange_of e = record { role = e.role; key = key_of e.key }

abbrev pub asking : KeyValue → ExchangeValue
asking key = record { role = Role.Asks; key = key }

abbrev pub answering : KeyValue → ExchangeValue
answering key = record { role = Role.Answers; key = key }

-- the way of a message, the asker's address and port first: an answer goes the way of its question back
abbrev pub way_of : Role → Way → Way
way_of Role.Asks w = w
way_of Role.Answers w = back w

-- this is the question or the answer of this kind that a message is, or it is none
abbrev pub Finds : (ExchangeValue → Type 0) → Option ExchangeValue → Type 0
Finds IsExchange None = (e : ExchangeValue) → IsExchange e → ⊥
Finds IsExchange (Some e) = IsExchange e
