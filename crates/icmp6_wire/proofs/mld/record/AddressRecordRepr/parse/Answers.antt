use Rattle.icmp6_wire.specs.MldRecord.{view_octets, value_of}
use Rattle.icmp6_wire.proofs.MldRecords.{all_record_rewrites}
use Rattle.icmp6_wire.proofs.mld.record.AddressRecordRepr.parse.Goals as goal

pub returns-clause-rewrites : goal.returns-clause-rewrites
returns-clause-rewrites c =
    all_record_rewrites value_of (view_octets c.args.view.now) c.read.result c.are_bytes.ensures c.read.ensures.sound
