-- Whole names read in any message.
use Rattle.record_wire.proofs.Words.{refl}
use Rattle.record_wire.specs.Name.{labels_of}
use Rattle.record_wire.proofs.NameReads.{own_octets}
use Rattle.record_wire.proofs.text.DataText.octets.Goals as goal

pub returns-in-Name : goal.returns-in-Name
returns-in-Name c =
    rw c.in-Name.is (labels_of c.in-Name.name, own_octets _ _ _ c.octets.ensures.value c.octets.ensures.name, refl)

pub returns-in-Mx : goal.returns-in-Mx
returns-in-Mx c =
    rw c.in-Mx.is
    (labels_of c.in-Mx.exchange, own_octets _ _ _ c.octets-in-Mx.ensures.value c.octets-in-Mx.ensures.name, refl)

pub returns-in-Srv : goal.returns-in-Srv
returns-in-Srv c =
    rw c.in-Srv.is
    (labels_of c.in-Srv.target, own_octets _ _ _ c.octets-in-Srv.ensures.value c.octets-in-Srv.ensures.name, refl)
