-- A packet on a line.
use Rattle.std.specs.Prelude.{◌≡◌, ◌++◌, [], ◌&&◌, Bool, List, None, Option, codes, decimal, false}
use Rattle.std.specs.Prelude.{if◌then◌else◌, true, ℕ}
use Rattle.message_brief.specs.Messages.{BriefIs, CutBriefIs}
use Rattle.message_fields.specs.Checksums.{HasState, MessageValue}
use Rattle.message_fields.specs.Messages.{is_refused}
use Rattle.message_fields.specs.declared.message.ChecksumState.{ChecksumState}
use Rattle.message_fields.specs.declared.message.ChecksumState.TheVariants as state
use Rattle.message_fields.specs.declared.refusal.Refusal.TheVariants as message_refusal
use Rattle.packet_fields.specs.Fields.{Item}
use Rattle.packet_pairs.specs.declared.pairs.Answered.{Answered}
use Rattle.dump_captures.specs.Arrival.{ArrivalValue}
use Rattle.dump_captures.specs.Color.{is_red, painted, red}
use Rattle.dump_captures.specs.Content.{ContentValue, kind_in}
use Rattle.dump_captures.specs.Content as content
use Rattle.dump_captures.specs.Heading.{addresses_text, time_word, verbose_words, way_words}
use Rattle.dump_captures.specs.Kinds.{kind_text}
use Rattle.dump_captures.specs.Messages.{ListingIs}
use Rattle.dump_captures.specs.Pairing.{answer_words}
use Rattle.dump_captures.specs.Refusals.{refusal_display}
use Rattle.dump_captures.specs.Sight.{HeadersValue}
use Rattle.dump_captures.specs.declared.kind.Reason.{Reason}
use Rattle.dump_captures.specs.declared.options.Options.{Options}
use Rattle.dump_captures.specs.declared.refusal.Refusal.{Refusal}
use Rattle.dump_captures.specs.declared.refusal.Refusal.TheVariants as refusal

-- ---- the front

abbrev pub header_word : Bool → List ℕ
header_word is_bad = if is_bad then codes " ip_checksum=bad" else []

-- up to the kind and what a checksum says: the number, the time, the addresses without ports, and the words of the
-- heading
unfoldable pub brief_front : Bool → ArrivalValue → HeadersValue → List ℕ
brief_front is_verbose a h =
    decimal a.number ++ codes " " ++ time_word a.time ++ addresses_text h.addresses None
    ++ verbose_words is_verbose a.packet h ++ way_words h

-- ---- what the message says

abbrev pub checksum_word : ChecksumState → List ℕ
checksum_word state.Bad = codes " checksum=bad"
checksum_word _ = []

abbrev pub kind_word : ContentValue → List ℕ
kind_word c = codes " " ++ kind_text (kind_in c)

-- of a packet that is refused the reason
abbrev pub refused_words : ContentValue → Refusal → List ℕ
refused_words c r = kind_word c ++ codes " refused=" ++ refusal_display r

-- a whole message behind what its checksum says; one whose checksum does not hold may be refused for that
pub data WholeSays (is_strict : Bool) (m : MessageValue) (told : List ℕ) : Type 0 where
  refused : (s : ChecksumState) → HasState m s → is_refused is_strict s ≡ true
      → told ≡ refused_words (content.whole m) (refusal.Message message_refusal.Checksum) → WholeSays is_strict m told
  says : (s : ChecksumState) (body : List ℕ) → HasState m s → is_refused is_strict s ≡ false → BriefIs m body
      → told ≡ checksum_word s ++ kind_word (content.whole m) ++ body → WholeSays is_strict m told

-- a message of whose datagram some bytes are missing
pub record CutSays (c : ContentValue) (m : MessageValue) (told : List ℕ) : Type 0 where
  pub body : List ℕ
  pub is : CutBriefIs m body
  pub text_is : told ≡ kind_word c ++ body

abbrev pub ContentSays : Bool → ContentValue → List ℕ → Type 0
ContentSays is_strict (content.whole m) told = WholeSays is_strict m told
ContentSays is_strict (content.cut m missing reason) told = CutSays (content.cut m missing reason) m told
ContentSays is_strict (content.refused kind reason r) told = told ≡ refused_words (content.refused kind reason r) r

-- Behind the checksum of the IPv4 header, where it is wrong; a packet may be refused for that.
pub data PacketSays (is_strict : Bool) (h : HeadersValue) (told : List ℕ) : Type 0 where
  refused : (is_strict && h.is_header_bad) ≡ true → told ≡ refused_words h.content refusal.Header
      → PacketSays is_strict h told
  says : (body : List ℕ) → (is_strict && h.is_header_bad) ≡ false → ContentSays is_strict h.content body
      → told ≡ header_word h.is_header_bad ++ body → PacketSays is_strict h told

-- ---- the line

-- A packet on a line, with what it answers, which may be red. It is refused or read in part for the reason of its
-- listing.
pub record BriefPrints (options : Options) (a : ArrivalValue) (h : HeadersValue) (why : Option Reason)
    (answer : Option Answered) (shown : List ℕ) : Type 0 where
  pub items : List Item
  pub is : ListingIs options h items why
  pub told : List ℕ
  pub says : PacketSays options.is_strict h told
  pub text_is : shown
      ≡ painted (is_red options why) red (brief_front options.is_verbose a h ++ told ++ answer_words answer)
      ++ codes "\n"
