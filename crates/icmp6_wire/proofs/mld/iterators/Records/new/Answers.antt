use Rattle.icmp6_wire.proofs.MldIterators.{records_of, records-unique}
use Rattle.icmp6_wire.proofs.mld.iterators.Records.new.Goals as goal

pub returns-clause-records : goal.returns-clause-records
returns-clause-records c = records_of c.args.count c.args.octets.now

pub returns-clause-unique : goal.returns-clause-unique
returns-clause-unique c = λ answers are.
    records-unique c.args.count c.args.octets.now answers _ are (records_of c.args.count c.args.octets.now)
