-- What a control packet prints below its heading, and why it is refused or read in part if it is.
use Rattle.std.specs.Prelude.{◌≡◌, ◌&&◌, [], ◌∷◌, ◌++◌, Bool, List, Option, Some, codes, false, true}
use Rattle.std.specs.Option.{option_map}
use Rattle.packet_fields.specs.Fields.{Item, field, text}
use Rattle.message_fields.specs.Checksums.{MessageValue}
use Rattle.message_fields.specs.Messages.{CutIs, MessageIs, options_items}
use Rattle.message_fields.specs.declared.refusal.Refusal.{Refusal as MessageRefusal}
use Rattle.dump_captures.specs.Refusals.{reason_of, refusal_display}
use Rattle.dump_captures.specs.Content.{ContentValue}
use Rattle.dump_captures.specs.Content as content
use Rattle.dump_captures.specs.Sight.{HeadersValue}
use Rattle.dump_captures.specs.declared.kind.Reason.{Reason}
use Rattle.dump_captures.specs.declared.kind.Reason.TheVariants as reason
use Rattle.dump_captures.specs.declared.options.Options.{Options}
use Rattle.dump_captures.specs.declared.refusal.Refusal.{Refusal}
use Rattle.dump_captures.specs.declared.refusal.Refusal.TheVariants as refusal

-- why a packet is refused
abbrev pub refused_items : Refusal → List Item
refused_items r = field (codes "refused") (text (refusal_display r)) ∷ []

-- the reason under which a message is counted that is refused or read in part
abbrev pub counted : Option MessageRefusal → Option Reason
counted told = option_map (λ r. reason_of false (refusal.Message r)) told

-- The message of a whole datagram, which is counted under the reason for which it is refused or read in part.
abbrev pub WholeIs : Options → MessageValue → List Item → Option Reason → Type 0
WholeIs options m items why =
    (told : Option MessageRefusal) × MessageIs options.form options.is_strict m items told
    × (why ≡ counted told)

-- a message, whole or in part, or why there is none to read
abbrev pub ContentIs : Options → ContentValue → List Item → Option Reason → Type 0
ContentIs options (content.whole m) items why = WholeIs options m items why
ContentIs options (content.cut m missing counted) items why = CutIs options.form missing m items × (why ≡ Some counted)
ContentIs options (content.refused kind counted r) items why = (items ≡ refused_items r) × (why ≡ Some counted)

-- the checksum of the IPv4 header, where it is wrong, and the reason under which such a packet is counted: a cut comes
-- before a checksum, and a checksum before all others
abbrev pub header_items : Bool → List Item
header_items true = field (codes "ip_checksum") (text (codes "bad")) ∷ []
header_items false = []

abbrev pub header_reason : ContentValue → Option Reason
header_reason (content.cut m missing reason.Cut) = Some reason.Cut
header_reason (content.refused kind reason.Cut r) = Some reason.Cut
header_reason _ = Some reason.Checksum

-- the first of two reasons: that of the header, and that of the content
abbrev pub first_of : Bool → ContentValue → Option Reason → Option Reason
first_of true c why = header_reason c
first_of false c why = why

-- All of it: the checksum of the IPv4 header, where it is wrong, the hop-by-hop options, where there are any, and then
-- the message; a packet whose header has a wrong checksum may be refused for that.
pub data ListingIs (options : Options) (h : HeadersValue) (items : List Item) (why : Option Reason) : Type 0 where
  refused : (options.is_strict && h.is_header_bad) ≡ true → items ≡ refused_items refusal.Header
      → why ≡ header_reason h.content → ListingIs options h items why
  shown : (body : List Item) (told : Option Reason) → (options.is_strict && h.is_header_bad) ≡ false
      → ContentIs options h.content body told
      → items ≡ header_items h.is_header_bad ++ options_items h.hop_by_hop ++ body
      → why ≡ first_of h.is_header_bad h.content told → ListingIs options h items why
