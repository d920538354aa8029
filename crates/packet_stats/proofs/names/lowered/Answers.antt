-- The octets in lower case are the name in lower case.
use Rattle.std.proofs.Common.{◌∙◌, rules}
use Rattle.record_wire.specs.Name.{labels_of}
use Rattle.record_wire.specs.NameCase.{lower_labels}
use Rattle.packet_stats.proofs.NameOctets.{reads_lower}
use Rattle.packet_stats.proofs.names.lowered.Goals as goal

pub unwrap-requires : goal.unwrap-requires
unwrap-requires c =
    let names = reads_lower c.new_unchecked.result.buffer.now c.as_slice-octets.result.now (labels_of c.args.name.now)
    c.lower_octets-octets.ensures.name (c.as_slice-octets.ensures.value ∙ c.lower_octets-octets.ensures.value) in
    let read = c.read.ensures.complete (lower_labels (labels_of c.args.name.now)) names in search rules

pub returns : goal.returns
returns c =
    let names = reads_lower c.new_unchecked.result.buffer.now c.as_slice-octets.result.now (labels_of c.args.name.now)
    c.lower_octets-octets.ensures.name (c.as_slice-octets.ensures.value ∙ c.lower_octets-octets.ensures.value) in
    let read = c.read.ensures.complete (lower_labels (labels_of c.args.name.now)) names in
    rw c.unwrap.ensures at read
