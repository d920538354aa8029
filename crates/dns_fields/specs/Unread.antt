-- What tells that something of a DNS message can't be read.
use Rattle.std.specs.Prelude.{[], ◌++◌, List, None, Option, Some, ℕ, codes}
use Rattle.record_wire.specs.NameRefusal.{name_refusal_display}
use Rattle.record_wire.specs.RecordDisplay.{option_refusal_display, section_display}
use Rattle.record_wire.specs.RecordRefusal.{refusal_display}
use Rattle.record_wire.specs.RecordText.{text_refusal_display}
use Rattle.dns_fields.specs.declared.unread.Unread.{Unread}

-- what is wrong
abbrev pub why_text : Unread → List ℕ
why_text Unread.Header = codes "fewer than 12 bytes"
why_text (Unread.Entry section why) = refusal_display why
why_text (Unread.Question why) = name_refusal_display why
why_text (Unread.Record why) = text_refusal_display why
why_text (Unread.Option why) = codes "the options: " ++ option_refusal_display why
why_text Unread.Addresses = codes "an address is cut"
why_text Unread.Names = codes "the names are cut"

-- what it is wrong with
abbrev pub where_text : Unread → List ℕ
where_text (Unread.Entry section why) = section_display section ++ codes ": "
where_text (Unread.Question why) = codes "question: "
where_text _ = []

abbrev pub unread_display : Unread → List ℕ
unread_display unread = where_text unread ++ why_text unread

-- of two, the first
abbrev pub first_of : Option Unread → Option Unread → Option Unread
first_of None later = later
first_of (Some why) later = Some why
