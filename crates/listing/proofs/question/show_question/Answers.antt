-- The question and the octets after it are one value, or there is none.
use Rattle.dns_wire.specs.DnsQuestion.{value_of}
use Rattle.listing.proofs.Printing.{listed_on_ok, refused_on_ok}
use Rattle.listing.proofs.question.show_question.Goals as goal

pub returns-in_default : goal.returns-in_default
returns-in_default g c =
    refused_on_ok _ _ _ _ (λ read is. c.in_default.ensures.complete read.0 read.1 is) c.line.ensures

pub returns : goal.returns
returns g c =
    listed_on_ok _ _ (value_of c.in-Ok.question, c.in-Ok.rest.now) _ _ _ c.in-Ok.ensures.sound c.show_fields.ensures
