use Rattle.record_wire.proofs.Words.{refl}
use Rattle.record_wire.proofs.NameReads.{own_octets}
use Rattle.record_wire.proofs.text.fields.FieldsText.octets.Goals as goal

pub returns : goal.returns
returns c = record {
  front_is = refl;
  first = own_octets _ _ _ c.octets.ensures.value c.octets.ensures.name;
  second_is = c.second_octets.ensures;
  rest_is = refl;
}
