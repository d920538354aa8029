-- What a capture prints, from its first byte on, and the counts of its packets. This is the manual, with the headings,
-- the listings and the counts in files of their own.
use Rattle.std.specs.Prelude.{◌≡◌, ◌<◌, ℕ, ◌+◌, ◌-◌, ◌^◌, ◌||◌, ◌&&◌, min, Bool, true, false, List, [], ◌∷◌, ◌++◌}
use Rattle.std.specs.Prelude.{length, ⊤, codes, get_or, is_some, Option, None, Some, IfSome}
use Rattle.capture.specs.Capture.{Holds, IsCapture, State}
use Rattle.capture.specs.Packet.{PacketValue}
use Rattle.capture.specs.declared.ending.Ending.{Ending}
use Rattle.packet_fields.specs.Fields.{Item, ItemsFit, items_text, number}
use Rattle.packet_fields.specs.Json.{object_text}
use Rattle.packet_fields.specs.declared.form.Form.{Form}
use Rattle.packet_fields.specs.declared.form.Form.TheVariants.{Json, Lines}
use Rattle.packet_pairs.specs.declared.pairs.Answered.{Answered}
use Rattle.reassembly.specs.Answer.{AnswerValue, incomplete}
use Rattle.reassembly.specs.Answer as answers
use Rattle.reassembly.specs.Fragment.{FragmentValue}
use Rattle.reassembly.specs.Partial.{PartialValue, WholeValue}
use Rattle.reassembly.specs.Reassembly.{Adds}
use Rattle.reassembly.specs.declared.answer.Refusal.{Refusal as FragmentRefusal}
use Rattle.dump_captures.specs.Arrival.{ArrivalValue, arrival}
use Rattle.dump_captures.specs.Brief.{BriefPrints}
use Rattle.dump_captures.specs.Content.{kind_in}
use Rattle.dump_captures.specs.Fragments.{IsJoinedSight, joined_path, refused_fragment}
use Rattle.dump_captures.specs.Heading.{head_items, heading}
use Rattle.dump_captures.specs.Host.{has_host}
use Rattle.dump_captures.specs.Kinds.{kind_place}
use Rattle.dump_captures.specs.Messages.{ListingIs}
use Rattle.dump_captures.specs.Owners.{HasName}
use Rattle.dump_captures.specs.End.{EndPrints}
use Rattle.dump_captures.specs.Pairing.{answer_items}
use Rattle.dump_captures.specs.Path.{PathValue}
use Rattle.dump_captures.specs.Progress.{ProgressValue, after, begin, is_enough, time_in}
use Rattle.dump_captures.specs.Session.{IsSeen, SessionValue, new_session}
use Rattle.dump_captures.specs.Sight.{HeadersValue, SightValue, StreamValue, unread, other, control, stream, fragment}
use Rattle.dump_captures.specs.Sight.{seen}
use Rattle.dump_captures.specs.Sight.{IsSight, protocol_category, stream_headers}
use Rattle.dump_captures.specs.Tally.{TallyValue, alone, counted}
use Rattle.dump_captures.specs.declared.counts.Category.{Category}
use Rattle.dump_captures.specs.declared.kind.Kind.{Kind}
use Rattle.dump_captures.specs.declared.kind.Reason.{Reason}
use Rattle.dump_captures.specs.declared.options.Only.{Only}
use Rattle.dump_captures.specs.declared.options.Options.{Options}
use Rattle.dump_captures.specs.declared.refusal.Refusal.TheVariants as refusal
use Rattle.dump_captures.specs.declared.stop.Stop.{Stop}
use Rattle.dump_captures.specs.declared.stop.Stop.TheVariants.{Ended, Enough, Unread as NotRead}
use Rattle.dump_captures.specs.declared.tally.Counted.{Counted}
use Rattle.dump_captures.specs.declared.tally.Outcome.{Outcome}
use Rattle.dump_captures.specs.declared.tally.Outcome.TheVariants.{Unread, Other, Kept, Passed, Listed, Refused}

-- ---- a packet

-- packets of the kinds that are asked for, or with hop-by-hop options
abbrev pub is_of : Only → HeadersValue → Bool
is_of only h = get_or only.kinds (kind_place (kind_in h.content)) false || (only.hop_by_hop && is_some h.hop_by_hop)

-- of these those that are from or to the host
abbrev pub is_in_reach : Options → HeadersValue → Bool
is_in_reach options h = is_of options.only h && has_host options.host h.addresses

-- whether a packet is chosen: of these those with the name
pub data Chooses (options : Options) (h : HeadersValue) : Bool → Type 0 where
  beyond : is_in_reach options h ≡ false → Chooses options h false
  by_name : (has : Bool) → is_in_reach options h ≡ true → HasName options.name h.content has → Chooses options h has

-- what becomes of a control packet
abbrev pub outcome_of : Kind → Option Reason → Outcome
outcome_of kind None = Listed kind
outcome_of kind (Some reason) = Refused kind reason

-- The text of a packet that holds these items: in lines a heading, and a line for each; in JSON an object on a line.
abbrev pub text_in : Form → Options → ArrivalValue → HeadersValue → List Item → List ℕ
text_in Lines options a h items = heading options a h ++ items_text Lines items
text_in Json options a h items = object_text (codes "number") (number a.number) (head_items a h ++ items) ++ codes "\n"

abbrev pub packet_text : Options → ArrivalValue → HeadersValue → List Item → List ℕ
packet_text options = text_in options.form options

-- What a control packet prints at length, with what it answers, and why it is refused or read in part. In JSON its
-- numbers have at most 64 bits, so that by `ReadsAsJson` the line is a text of JSON that reads as the object.
pub record LengthyPrints (options : Options) (a : ArrivalValue) (h : HeadersValue) (why : Option Reason)
    (answer : Option Answered) (text : List ℕ) : Type 0 where
  pub items : List Item
  pub is : ListingIs options h items why
  pub fits : options.form ≡ Json
      → (a.number < 2 ^ 64) × ItemsFit (head_items a h ++ (items ++ answer_items Json answer))
  pub text_is : text ≡ packet_text options a h (items ++ answer_items options.form answer)

-- whether a packet is printed on a line that is no JSON
abbrev pub in_brief : Form → Bool → Bool
in_brief Lines is_brief = is_brief
in_brief Json is_brief = false

-- in the form that is asked for
abbrev pub PrintsBy : Bool → Options → ArrivalValue → HeadersValue → Option Reason → Option Answered → List ℕ → Type 0
PrintsBy true options a h why answer text = BriefPrints options a h why answer text
PrintsBy false options a h why answer text = LengthyPrints options a h why answer text

-- Nothing where statistics are asked for. The reason is that of its listing.
abbrev pub PrintsUnless : Bool → Options → ArrivalValue → HeadersValue → Option Reason → Option Answered → List ℕ
    → Type 0
PrintsUnless true options a h why answer text = (items : List Item) × ListingIs options h items why × (text ≡ [])
PrintsUnless false options a h why answer text =
    PrintsBy (in_brief options.form options.is_brief) options a h why answer text

abbrev pub ControlPrints : Options → ArrivalValue → HeadersValue → Option Reason → Option Answered → List ℕ → Type 0
ControlPrints options = PrintsUnless options.stats options

-- What a control packet prints, and what becomes of it: one that is chosen its heading and its listing, unless packets
-- are only counted; the others nothing. Before it and behind it this is kept of the messages.
pub data HeadersPrint (options : Options) (a : ArrivalValue) (h : HeadersValue) (old : SessionValue) (text : List ℕ)
    (outcome : Outcome) (new : SessionValue) : Type 0 where
  printed : (why : Option Reason) (answer : Option Answered) → Chooses options h true → options.prints ≡ true
      → ControlPrints options a h why answer text → IsSeen options a h why old answer new
      → outcome ≡ outcome_of (kind_in h.content) why → HeadersPrint options a h old text outcome new
  counted_alone : (items : List Item) (why : Option Reason) → Chooses options h true → options.prints ≡ false
      → ListingIs options h items why → text ≡ [] → outcome ≡ outcome_of (kind_in h.content) why → new ≡ old
      → HeadersPrint options a h old text outcome new
  passed : Chooses options h false → text ≡ [] → outcome ≡ Passed → new ≡ old
      → HeadersPrint options a h old text outcome new

-- What becomes of a packet with several messages, after these and one more: the first that is refused or read in part
-- counts, or else one that is listed.
abbrev pub joined_outcome : Outcome → Outcome → Outcome
joined_outcome Passed next = next
joined_outcome (Listed kind) (Refused k reason) = Refused k reason
joined_outcome so_far next = so_far

-- what the messages in a segment print, one after another
abbrev pub EachPrints : Options → ArrivalValue → StreamValue → Outcome → SessionValue → List (List ℕ) → List ℕ → Outcome
    → SessionValue → Type 0
EachPrints options a s so_far old [] text outcome new = (text ≡ []) × (outcome ≡ so_far) × (new ≡ old)
EachPrints options a s so_far old (message ∷ messages) text outcome new =
    (first : List ℕ) × (more : List ℕ) × (own : Outcome) × (middle : SessionValue)
    × HeadersPrint options a (stream_headers s message) old first own middle
    × EachPrints options a s (joined_outcome so_far own) middle messages more outcome new
    × (text ≡ first ++ more)

-- What a packet prints, by what its headers tell, and what becomes of it.
pub data SightPrints (options : Options) (a : ArrivalValue) (s : SightValue) (old : SessionValue) (text : List ℕ)
    (outcome : Outcome) (new : SessionValue) : Type 0 where
  of_unread : s ≡ unread → text ≡ [] → outcome ≡ Unread → new ≡ old → SightPrints options a s old text outcome new
  of_other : (c : Category) → s ≡ other c → text ≡ [] → outcome ≡ Other c → new ≡ old
      → SightPrints options a s old text outcome new
  of_control : (h : HeadersValue) → s ≡ control h → HeadersPrint options a h old text outcome new
      → SightPrints options a s old text outcome new
  of_stream : (t : StreamValue) → s ≡ stream t → EachPrints options a t Passed old t.messages text outcome new
      → SightPrints options a s old text outcome new

-- What a datagram prints that was put together, and how many packets before this one its fragments came in.
pub record WholePrints (options : Options) (a : ArrivalValue) (path : PathValue) (w : WholeValue) (old : SessionValue)
    (text : List ℕ) (counted : Counted) (new : SessionValue) : Type 0 where
  pub sight : SightValue
  pub outcome : Outcome
  pub is_sight : IsJoinedSight options.ports a.packet (joined_path path w) w sight
  pub prints : SightPrints options a sight old text outcome new
  pub counts : counted ≡ record { outcome = outcome; joined = length w.numbers - 1 }

-- What a fragment prints, by what became of it: nothing where its datagram lacks others, and the whole datagram where
-- it is the last to come.
pub data FragmentPrints (options : Options) (a : ArrivalValue) (path : PathValue) (f : FragmentValue)
    (answer : AnswerValue) (old : SessionValue) (text : List ℕ) (counted : Counted) (new : SessionValue) : Type 0 where
  kept : (dropped : Option PartialValue) → answer ≡ incomplete dropped → text ≡ []
      → counted ≡ alone (Kept (protocol_category f.protocol)) → new ≡ old
      → FragmentPrints options a path f answer old text counted new
  refused : (r : FragmentRefusal) (outcome : Outcome) → answer ≡ answers.refused r
      → SightPrints options a (refused_fragment options.ports path f (refusal.Fragment r)) old text outcome new
      → counted ≡ alone outcome → FragmentPrints options a path f answer old text counted new
  put_together : (w : WholeValue) → answer ≡ answers.whole w → WholePrints options a path w old text counted new
      → FragmentPrints options a path f answer old text counted new

-- What is kept from packet to packet: fragments, and what messages said.
pub record KeptValue : Type 0 where
  pub fragments : List PartialValue
  pub session : SessionValue

abbrev pub nothing_kept : KeptValue
nothing_kept = record { fragments = []; session = new_session }

-- What a fragment prints that is put to those that are kept.
pub record FragmentAdds (options : Options) (a : ArrivalValue) (path : PathValue) (f : FragmentValue) (old : KeptValue)
    (text : List ℕ) (counted : Counted) (new : KeptValue) : Type 0 where
  pub answer : AnswerValue
  pub adds : Adds old.fragments a.number f answer new.fragments
  pub prints : FragmentPrints options a path f answer old.session text counted new.session

-- What a packet prints after others, of which this is kept.
pub data PacketPrints (options : Options) (a : ArrivalValue) (old : KeptValue) (text : List ℕ) (counted : Counted)
    (new : KeptValue) : Type 0 where
  at_once : (s : SightValue) (outcome : Outcome) → IsSight options.ports a.packet (seen s)
      → SightPrints options a s old.session text outcome new.session → counted ≡ alone outcome
      → new.fragments ≡ old.fragments → PacketPrints options a old text counted new
  by_fragment : (path : PathValue) (f : FragmentValue) → IsSight options.ports a.packet (fragment path f)
      → FragmentAdds options a path f old text counted new → PacketPrints options a old text counted new

-- ---- a capture

-- the numbers of packets, up to the greatest of 64 bits
abbrev pub next_number : ℕ → ℕ
next_number n = min (n + 1) (2 ^ 64 - 1)

-- What the packets after n others print, one after another, of which this is kept, as long as packets are left to be
-- printed; each is counted. Behind the last one this is kept of the messages.
abbrev pub PacketsPrint : Options → Option (List ℕ) → ℕ → ProgressValue → KeptValue → TallyValue → List PacketValue
    → List ℕ → TallyValue → ProgressValue → SessionValue → Type 0
PacketsPrint options file n b held old [] text new last session =
    (text ≡ []) × (new ≡ old) × (last ≡ b) × (session ≡ held.session)
PacketsPrint options file n b held old (p ∷ packets) text new last session =
    (first : List ℕ) × (more : List ℕ) × (count : Counted) × (left : KeptValue) × (is_enough b ≡ false)
    × PacketPrints options (arrival file (next_number n) (time_in b p.time) p) held first count left
    × PacketsPrint options file (next_number n) (after count.outcome p.time b) left
    (counted count p.link_type (length p.octets) old) packets more new last session
    × (text ≡ first ++ more)

-- These packets come first in a capture of these bytes: whatever it holds behind them, in the bytes that are left.
pub record IsFront (bytes : List ℕ) (packets : List PacketValue) : Type 0 where
  pub left : List ℕ
  pub reached : State
  pub goes_on : (more : List PacketValue) (ending : Ending) → Holds reached left more ending
      → IsCapture bytes (packets ++ more) ending

-- The bytes hold these packets where the reading stops so: all of them, or those up to the last one that was read.
abbrev pub AreRead : List ℕ → List PacketValue → Stop → Type 0
AreRead bytes packets (Ended ending) = IsCapture bytes packets ending
AreRead bytes packets Enough = IsFront bytes packets
AreRead bytes packets NotRead = IsFront bytes packets

-- no packet more is to be printed where the reading stops for that, and one is where the capture ends
abbrev pub StopsBy : Stop → ProgressValue → Type 0
StopsBy (Ended ending) last = is_enough last ≡ false
StopsBy Enough last = is_enough last ≡ true
StopsBy NotRead last = ⊤

-- What the packets of an input print, whose bytes may be known: those from the first on, up to the one after which no
-- more are to be printed; before the first nothing is kept, and behind the last one this of the messages. Their counts
-- are added to those before.
pub record ReadPrints (options : Options) (file : Option (List ℕ)) (bytes : Option (List ℕ)) (old : TallyValue)
    (text : List ℕ) (new : TallyValue) (session : SessionValue) (stop : Stop) : Type 0 where
  pub packets : List PacketValue
  pub last : ProgressValue
  pub reads : IfSome bytes (λ all. AreRead all packets stop)
  pub prints : PacketsPrint options file 0 (begin options) nothing_kept old packets text new last session
  pub stops : StopsBy stop last

-- What an input prints, with the name of its file where it is to be told: its packets, and then what stands behind
-- them.
pub record InputPrints (options : Options) (file : Option (List ℕ)) (bytes : Option (List ℕ)) (old : TallyValue)
    (text : List ℕ) (new : TallyValue) (stop : Stop) : Type 0 where
  pub packets_text : List ℕ
  pub session : SessionValue
  pub packets : ReadPrints options file bytes old packets_text new session stop
  pub end_text : List ℕ
  pub ends : EndPrints options file session end_text
  pub text_is : text ≡ packets_text ++ end_text

-- how the reading stops: by what ends the capture, or by the number of packets
abbrev pub stop_of : Option Ending → Stop
stop_of None = Enough
stop_of (Some ending) = Ended ending

-- What a capture of these bytes prints, which ends so where no number of packets ends its reading before.
abbrev pub CapturePrints : Options → List ℕ → TallyValue → List ℕ → TallyValue → Option Ending → Type 0
CapturePrints options bytes old text new ending = InputPrints options None (Some bytes) old text new (stop_of ending)
