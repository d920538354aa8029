use Rattle.group_wire.specs.Family.{width}
use Rattle.group_wire.specs.Records.{count_in, octets_in}
use Rattle.group_wire.proofs.RecordsAhead.{records_of}
use Rattle.group_wire.proofs.records.Records.iter.Goals as goal

pub returns-clause-records : goal.returns-clause-records
returns-clause-records g c =
    records_of (width g.A.Address.family) (count_in c.args.self.now) (octets_in c.args.self.now)
