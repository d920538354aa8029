use Rattle.icmp6_wire.specs.MldRecord.{view_octets}
use Rattle.icmp6_wire.proofs.MldRecords.{record-one}
use Rattle.icmp6_wire.proofs.mld.record.AddressRecordRepr.read.Goals as goal

pub returns-clause-complete : goal.returns-clause-complete
returns-clause-complete c = λ value is.
    record-one (view_octets c.args.view.now) _ value c.read_whole.ensures is
