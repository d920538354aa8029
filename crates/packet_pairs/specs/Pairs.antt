-- The questions that wait for an answer, and what each message does.
use Rattle.std.specs.Prelude.{◌≡◌, ◌≢◌, ◌<◌, ◌≤◌, ◌+◌, ◌-◌, ◌^◌, [], ◌∷◌, ◌++◌, Bool, List, None, Option, Some, false}
use Rattle.std.specs.Prelude.{if◌then◌else◌}
use Rattle.std.specs.Prelude.{length, map, min, nat_le, take, true, ℕ}
use Rattle.packet_pairs.specs.Exchange.{ExchangeValue}
use Rattle.packet_pairs.specs.Key.{KeyValue, echo, key_of, lease, name, neighbor, netbios}
use Rattle.packet_pairs.specs.Types.{Answered, Asked, Key, Role, Service}
use Rattle.packet_pairs.specs.declared.pairs.Pairs.{Pairs}

-- a question by its content
pub record AskedValue : Type 0 where
  pub key : KeyValue
  pub number : ℕ
  pub time : Option ℕ
  pub tries : ℕ

abbrev pub asked_of : Asked → AskedValue
asked_of q = record { key = key_of q.key; number = q.number; time = q.time; tries = q.tries }

-- its key itself, which has the name as it was written
abbrev pub key_in : Asked → Key
key_in q = q.key

-- The questions without an answer, in the order in which they were asked; those that had one, and may have more, the
-- latest first; and how many without an answer were dropped.
pub record State : Type 0 where
  pub waiting : List AskedValue
  pub answered : List AskedValue
  pub dropped : ℕ

abbrev pub state_of : Pairs → State
state_of p = record {
  waiting = map asked_of p.waiting.items;
  answered = map asked_of p.answered.items;
  dropped = p.dropped;
}

-- the most of them
abbrev pub most_waiting : ℕ
most_waiting = 2048

abbrev pub most_answered : ℕ
most_answered = 64

-- none of them has this key
abbrev pub IsUnknown : KeyValue → List AskedValue → Type 0
IsUnknown key [] = Unit {0}
IsUnknown key (q ∷ qs) = (q.key ≢ key) × IsUnknown key qs

-- one more, as far as 64 bits count
abbrev pub one_more : ℕ → ℕ
one_more n = min (n + 1) (2 ^ 64 - 1)

-- ---- questions

-- one that is asked for the first time, and one that is asked again: how long its asker waits, counts from the first
-- time
abbrev pub first_asked : ℕ → Option ℕ → KeyValue → AskedValue
first_asked number time key = record { key = key; number = number; time = time; tries = 1 }

abbrev pub asked_again : AskedValue → AskedValue
asked_again q = record { key = q.key; number = q.number; time = q.time; tries = one_more q.tries }

-- ---- answers

-- the nanoseconds from one time to another, where both are known and the other is not before the one
abbrev pub nanoseconds_between : Option ℕ → Option ℕ → Option ℕ
nanoseconds_between (Some before) (Some after) = if nat_le before after then Some (after - before) else None
nanoseconds_between _ _ = None

abbrev pub answers : AskedValue → Option ℕ → Answered
answers q time = record { number = q.number; after = nanoseconds_between q.time time }

-- Many may answer a question that does not go to one host: of DHCP, of LLMNR, of multicast DNS and of the NetBIOS name
-- service.
abbrev pub is_of_group : Service → Bool
is_of_group Service.Dns = false
is_of_group _ = true

abbrev pub goes_to_many : KeyValue → Bool
goes_to_many (name k) = is_of_group k.service
goes_to_many (netbios w id) = true
goes_to_many (echo addresses ident seq_no) = false
goes_to_many (neighbor asker target) = false
goes_to_many (lease reply id client) = true

-- such a question is remembered for the answers of others
abbrev pub remembered : AskedValue → List AskedValue → List AskedValue
remembered q qs = if goes_to_many q.key then take most_answered (q ∷ qs) else qs

-- ---- what a message does

-- The answer that the message of this number and time is, and the questions that then wait. A question waits behind the
-- others; where there is no room, the one that was asked first is dropped. Where it waits already, it is asked again,
-- and keeps its place. An answer takes its question out. That of another to a question that may have more is told too,
-- and changes nothing; so does an answer to no question.
pub data Sees (old : State) (number : ℕ) (time : Option ℕ) (e : ExchangeValue) (answer : Option Answered) (new : State)
    : Type 0 where
  asks : e.role ≡ Role.Asks → IsUnknown e.key old.waiting → length old.waiting < most_waiting → answer ≡ None
      → new ≡ record old { waiting = old.waiting ++ (first_asked number time e.key ∷ []) }
      → Sees old number time e answer new
  drops : (first : AskedValue) (rest : List AskedValue) → e.role ≡ Role.Asks → IsUnknown e.key old.waiting
      → most_waiting ≤ length old.waiting → old.waiting ≡ first ∷ rest → answer ≡ None
      → new ≡ record old { waiting = rest ++ (first_asked number time e.key ∷ []); dropped = one_more old.dropped }
      → Sees old number time e answer new
  asks_again : (before behind : List AskedValue) (q : AskedValue) → e.role ≡ Role.Asks
      → old.waiting ≡ before ++ (q ∷ behind) → IsUnknown e.key before → q.key ≡ e.key → answer ≡ None
      → new ≡ record old { waiting = before ++ (asked_again q ∷ behind) } → Sees old number time e answer new
  answers_one : (before behind : List AskedValue) (q : AskedValue) → e.role ≡ Role.Answers
      → old.waiting ≡ before ++ (q ∷ behind) → IsUnknown e.key before → q.key ≡ e.key
      → answer ≡ Some (answers q time)
      → new ≡ record old { waiting = before ++ behind; answered = remembered q old.answered }
      → Sees old number time e answer new
  answers_too : (before behind : List AskedValue) (q : AskedValue) → e.role ≡ Role.Answers
      → IsUnknown e.key old.waiting → old.answered ≡ before ++ (q ∷ behind) → IsUnknown e.key before → q.key ≡ e.key
      → answer ≡ Some (answers q time) → new ≡ old → Sees old number time e answer new
  answers_none : e.role ≡ Role.Answers → IsUnknown e.key old.waiting → IsUnknown e.key old.answered → answer ≡ None
      → new ≡ old → Sees old number time e answer new

-- What takes memory: to keep a question that is new where there is room, and to take one out that is answered, since it
-- may be remembered.
pub data TakesMemory (s : State) (e : ExchangeValue) : Type 0 where
  keeps : e.role ≡ Role.Asks → IsUnknown e.key s.waiting → length s.waiting < most_waiting → TakesMemory s e
  takes_out : e.role ≡ Role.Answers → (IsUnknown e.key s.waiting → ⊥) → TakesMemory s e
