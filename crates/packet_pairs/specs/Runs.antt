-- A question and its answer are paired, whatever comes in between.
use Rattle.std.specs.Prelude.{◌≡◌, ◌≢◌, ◌+◌, ◌<◌, [], ◌∷◌, List, Option, Some, ℕ}
use Rattle.packet_pairs.specs.Exchange.{ExchangeValue, answering, asking}
use Rattle.packet_pairs.specs.Key.{KeyValue}
use Rattle.packet_pairs.specs.Pairs.{IsUnknown, Sees, State, most_waiting, nanoseconds_between}
use Rattle.packet_pairs.specs.Types.{Answered, Role}

-- a message with the number and the time of its packet
pub record Seen : Type 0 where
  pub number : ℕ
  pub time : Option ℕ
  pub exchange : ExchangeValue

-- messages that are seen one after another
abbrev pub Runs : State → List Seen → State → Type 0
Runs old [] new = new ≡ old
Runs old (m ∷ ms) new =
    (next : State) × (answer : Option Answered) × Sees old m.number m.time m.exchange answer next × Runs next ms new

-- how many of them ask
abbrev pub questions_of : Role → ℕ
questions_of Role.Asks = 1
questions_of Role.Answers = 0

abbrev pub questions_in : List Seen → ℕ
questions_in [] = 0
questions_in (m ∷ ms) = questions_of m.exchange.role + questions_in ms

-- none of them answers this question
abbrev pub NoneAnswers : KeyValue → List Seen → Type 0
NoneAnswers key [] = Unit {0}
NoneAnswers key (m ∷ ms) = (m.exchange ≢ answering key) × NoneAnswers key ms

-- Where a question is new, and neither an answer to it nor `MOST_WAITING` questions come in between, the next answer is
-- told to be one to it, and how long it took. It may be asked again in between.
abbrev pub PairsUp : Type 0
PairsUp =
    (key : KeyValue) (old asked before after : State) (number last : ℕ) (time later : Option ℕ) (between : List Seen)
    (told answer : Option Answered) → IsUnknown key old.waiting → Sees old number time (asking key) told asked
    → Runs asked between before → NoneAnswers key between → questions_in between < most_waiting
    → Sees before last later (answering key) answer after
    → answer ≡ Some (record { number = number; after = nanoseconds_between time later })
