-- Which packet answers which, and what is printed of that.
use Rattle.std.specs.Prelude.{◌≡◌, ◌==◌, [], ◌∷◌, ◌++◌, Bool, List, None, Option, Some, codes, decimal, false}
use Rattle.std.specs.Prelude.{flat_map}
use Rattle.std.specs.Prelude.{if◌then◌else◌, map, true, ℕ}
use Rattle.frame_wire.specs.declared.datagram.Addresses.{Addresses}
use Rattle.message_fields.specs.Checksums.{MessageValue}
use Rattle.packet_fields.specs.Fields.{Item, field, items_text, number, text}
use Rattle.packet_fields.specs.Json.{object_text}
use Rattle.packet_fields.specs.declared.form.Form.{Form}
use Rattle.packet_fields.specs.declared.form.Form.TheVariants.{Json, Lines}
use Rattle.packet_pairs.specs.Exchange.{ExchangeValue}
use Rattle.packet_pairs.specs.Message.{Has}
use Rattle.packet_pairs.specs.Pairs.{Sees, State, asked_of}
use Rattle.packet_pairs.specs.Shown.{answered_items, asked_items, milliseconds_text}
use Rattle.packet_pairs.specs.declared.pairs.Answered.{Answered}
use Rattle.packet_pairs.specs.declared.pairs.Asked.{Asked}
use Rattle.dump_captures.specs.Arrival.{ArrivalValue, moment_in}
use Rattle.dump_captures.specs.Content.{ContentValue}
use Rattle.dump_captures.specs.Content as content
use Rattle.dump_captures.specs.Heading.{file_items}
use Rattle.dump_captures.specs.declared.kind.Reason.{Reason}
use Rattle.dump_captures.specs.declared.kind.Reason.TheVariants.{Checksum}
use Rattle.dump_captures.specs.declared.options.Options.{Options}

-- ---- a message

abbrev pub no_question : State
no_question = record { waiting = []; answered = []; dropped = 0 }

-- the message of a packet, whole or in part, where it has one
abbrev pub message_in : ContentValue → Option MessageValue
message_in (content.whole m) = Some m
message_in (content.cut m missing reason) = Some m
message_in (content.refused kind reason r) = None

-- whether a packet is counted as one with a wrong checksum
abbrev pub is_checksum : Option Reason → Bool
is_checksum (Some Checksum) = true
is_checksum _ = false

-- A packet whose message, between these addresses, answers a question or asks one. Before it and behind it these
-- questions wait.
pub data MessageAnswers (a : ArrivalValue) (m : MessageValue) (between : Addresses) (old : State)
    (answer : Option Answered) (new : State) : Type 0 where
  other : Has m between None → answer ≡ None → new ≡ old → MessageAnswers a m between old answer new
  exchange : (e : ExchangeValue) → Has m between (Some e)
      → Sees old a.number (moment_in a.packet.time) e answer new → MessageAnswers a m between old answer new

-- ---- what is printed of it

-- behind the items of its message
abbrev pub answer_items : Form → Option Answered → List Item
answer_items form None = []
answer_items form (Some answered) = answered_items form answered

-- as words of a line
abbrev pub after_word : Option ℕ → List ℕ
after_word None = []
after_word (Some nanoseconds) = codes " after=" ++ milliseconds_text nanoseconds

abbrev pub answer_words : Option Answered → List ℕ
answer_words None = []
answer_words (Some answered) = codes " answers=" ++ decimal answered.number ++ after_word answered.after

-- ---- what got no answer

-- an object behind those of packets, with the name of the file where it is to be told
abbrev pub summary_object : List ℕ → Option (List ℕ) → List Item → List ℕ
summary_object word file items =
    object_text (codes "summary") (text word) (file_items file ++ items) ++ codes "\n"

abbrev pub waiting_text : List ℕ
waiting_text = codes "unanswered"

-- lines as words of one: each loses its end and the first of the spaces before it
abbrev pub as_words : Bool → List ℕ → List ℕ
as_words begins [] = []
as_words true (octet ∷ rest) = as_words false rest
as_words false (octet ∷ rest) = if octet == 10 then as_words true rest else octet ∷ as_words false rest

-- below a line that says so, or all on that line
abbrev pub unanswered_lines : Bool → List Item → List ℕ
unanswered_lines false items = waiting_text ++ codes "\n" ++ items_text Lines items
unanswered_lines true items = waiting_text ++ as_words true (items_text Lines items) ++ codes "\n"

-- in JSON an object
abbrev pub unanswered_text : Form → Bool → Option (List ℕ) → List Item → List ℕ
unanswered_text Lines is_brief file items = unanswered_lines is_brief items
unanswered_text Json is_brief file items = summary_object waiting_text file items

-- a question
abbrev pub question_text : Options → Option (List ℕ) → Asked → List ℕ
question_text options file q = unanswered_text options.form options.is_brief file (asked_items q)

-- how many more were dropped, since too many waited, where there are any
abbrev pub dropped_items : ℕ → List Item
dropped_items n = field (codes "dropped") (number n) ∷ []

abbrev pub dropped_text : Options → Option (List ℕ) → ℕ → List ℕ
dropped_text options file n =
    if n == 0 then [] else unanswered_text options.form options.is_brief file (dropped_items n)

-- What is printed behind the packets of a capture: the questions without an answer, in the order in which they were
-- asked, each with its name as it was asked, and how many were dropped.
pub record Unanswered (options : Options) (file : Option (List ℕ)) (s : State) (shown : List ℕ) : Type 0 where
  pub questions : List Asked
  pub are : map asked_of questions ≡ s.waiting
  pub text_is : shown ≡ flat_map (question_text options file) questions ++ dropped_text options file s.dropped
