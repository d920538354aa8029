-- Whole names read in any message.
use Rattle.record_wire.proofs.Words.{refl}
use Rattle.record_wire.proofs.NameReads.{own_octets}
use Rattle.record_wire.proofs.text.AuthorityText.octets.Goals as goal

pub returns : goal.returns
returns c = record {
  primary_is = own_octets _ _ _ c.octets.ensures.value c.octets.ensures.name;
  mailbox_is = own_octets _ _ _ c.octets-2.ensures.value c.octets-2.ensures.name;
  serial = refl;
  refresh = refl;
  retry = refl;
  expire = refl;
  minimum = refl;
}
