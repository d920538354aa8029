use Rattle.record_wire.proofs.Words.{ap}
use Rattle.record_wire.specs.FieldsText.{labels_in}
use Rattle.record_wire.specs.Name.{labels_of}
use Rattle.record_wire.proofs.NameReads.{own_octets}
use Rattle.record_wire.proofs.text.fields.second_octets.Goals as goal

pub returns-in-Some : goal.returns-in-Some
returns-in-Some c = (
  labels_of c.in-Some.name,
  own_octets _ _ _ c.octets.ensures.value c.octets.ensures.name,
  ap labels_in c.in-Some.is,
)
