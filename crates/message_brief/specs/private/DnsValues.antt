-- What is found in DNS messages, as the program has it.
use Rattle.std.specs.Prelude.{codes}
use Rattle.dns_fields.specs.Node.{part_text}
use Rattle.record_wire.specs.Name.{labels_of}
use Rattle.record_wire.specs.RecordText.{RecordTextValue, record_text_of}
use Rattle.message_brief.specs.Dns.{Answered, Asked, brief_data, named, none, nothing, tells, unnamed, unread, unreadable}
use Rattle.message_brief.specs.declared.dns.found.Answer.{Answer}
use Rattle.message_brief.specs.declared.dns.found.Question.{Question}

abbrev pub asked_of : Question → Asked
asked_of Question.Nothing = nothing
asked_of Question.Unread = unread
asked_of (Question.Unnamed t) = unnamed t
asked_of (Question.Named t name) = named t (labels_of name)

abbrev pub tells_of : RecordTextValue → Answered
tells_of value = tells value.name value.kind (brief_data value.«data»)

abbrev pub answered_of : Answer → Answered
answered_of Answer.Nothing = none
answered_of Answer.Unread = unreadable
answered_of (Answer.Zone text) = tells_of (record_text_of text)
answered_of (Answer.Empty name t) = tells (labels_of name) t (codes "-")
answered_of (Answer.Node name t part) = tells (labels_of name) t (part_text part.part part.octets.now)
