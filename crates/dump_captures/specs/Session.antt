-- What is kept of the messages of a capture, and what a packet changes of it.
use Rattle.std.specs.Prelude.{◌≡◌, ◌&&◌, ◌||◌, Bool, None, Option, Some, false, not, true, ℕ}
use Rattle.std.specs.Option.{option_and_then}
use Rattle.frame_wire.specs.declared.datagram.Addresses.{Addresses}
use Rattle.message_fields.specs.Checksums.{MessageValue}
use Rattle.packet_pairs.specs.Pairs.{State as Questions}
use Rattle.packet_pairs.specs.declared.pairs.Answered.{Answered}
use Rattle.packet_stats.specs.Message.{Says}
use Rattle.packet_stats.specs.Stats.{CountsThat, State as Counts, no_messages}
use Rattle.dump_captures.specs.Arrival.{ArrivalValue}
use Rattle.dump_captures.specs.Pairing.{MessageAnswers, is_checksum, message_in, no_question}
use Rattle.dump_captures.specs.Sight.{HeadersValue}
use Rattle.dump_captures.specs.declared.kind.Reason.{Reason}
use Rattle.dump_captures.specs.declared.options.Options.{Options}

-- the questions that wait for an answer, and what messages said
pub record SessionValue : Type 0 where
  pub questions : Questions
  pub counts : Counts

abbrev pub new_session : SessionValue
new_session = record { questions = no_question; counts = no_messages }

-- whether messages are looked at, and the packet is not refused for a checksum
abbrev pub is_looked_at : Options → Option Reason → Bool
is_looked_at options why = (options.pairs || options.stats) && not (options.is_strict && is_checksum why)

abbrev pub after_in : Option Answered → Option ℕ
after_in answer = option_and_then (λ answered. answered.after) answer

-- what a message says is counted where that is asked for
abbrev pub CountsIf : Bool → MessageValue → Addresses → Option ℕ → Counts → Counts → Type 0
CountsIf true m between after old new = CountsThat (Says m between after) old new
CountsIf false m between after old new = new ≡ old

-- A message between these addresses answers a question or asks one, and is counted.
pub record MessageIsSeen (options : Options) (a : ArrivalValue) (m : MessageValue) (between : Addresses)
    (old : SessionValue) (answer : Option Answered) (new : SessionValue) : Type 0 where
  pub answers : MessageAnswers a m between old.questions answer new.questions
  pub counts : CountsIf options.stats m between (after_in answer) old.counts new.counts

-- a packet without a message, or without addresses, answers none and is not counted
abbrev pub ContentIsSeen : Options → ArrivalValue → Option MessageValue → Option Addresses → SessionValue
    → Option Answered → SessionValue → Type 0
ContentIsSeen options a (Some m) (Some between) old answer new = MessageIsSeen options a m between old answer new
ContentIsSeen options a _ _ old answer new = (answer ≡ None) × (new ≡ old)

-- The question that a packet answers, where it answers one, and what is then kept.
pub data IsSeen (options : Options) (a : ArrivalValue) (h : HeadersValue) (why : Option Reason) (old : SessionValue)
    (answer : Option Answered) (new : SessionValue) : Type 0 where
  passed : is_looked_at options why ≡ false → answer ≡ None → new ≡ old → IsSeen options a h why old answer new
  seen : is_looked_at options why ≡ true
      → ContentIsSeen options a (message_in h.content) h.addresses old answer new
      → IsSeen options a h why old answer new
