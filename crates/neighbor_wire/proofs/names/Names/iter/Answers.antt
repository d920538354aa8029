use Rattle.neighbor_wire.specs.Names.{octets_in}
use Rattle.neighbor_wire.proofs.NamesAhead.{names_in, names-unique}
use Rattle.neighbor_wire.proofs.names.Names.iter.Goals as goal

pub returns-clause-names : goal.returns-clause-names
returns-clause-names c = names_in (octets_in c.args.self.now)

pub returns-clause-unique : goal.returns-clause-unique
returns-clause-unique c =
    let bytes = octets_in c.args.self.now in λ answers are. names-unique bytes answers _ are (names_in bytes)
