-- A whole name has one text.
use Rattle.record_wire.proofs.Words.{refl}
use Rattle.record_wire.specs.Name.{labels_of}
use Rattle.record_wire.specs.ZoneText.{whole_name}
use Rattle.record_wire.proofs.NameReads.{own_reads, own_text}
use Rattle.record_wire.proofs.name.name_text.NameText.of.Goals as goal

pub returns-in_default : goal.returns-in_default
returns-in_default c =
    let labels = labels_of c.args.name.now in
    absurd (c.in_default.ensures.reads_not refl (whole_name labels)
    (own_reads _ _ labels c.octets.ensures.value c.octets.ensures.name))

pub returns : goal.returns
returns c =
    own_text _ _ _ (labels_of c.args.name.now) c.octets.ensures.value c.octets.ensures.name c.in-Ok.ensures.reads
