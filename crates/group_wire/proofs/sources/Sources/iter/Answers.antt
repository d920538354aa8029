use Rattle.group_wire.specs.Sources.{octets_in}
use Rattle.group_wire.proofs.SourcesAhead.{sources_of}
use Rattle.group_wire.proofs.sources.Sources.iter.Goals as goal

pub returns-clause-sources : goal.returns-clause-sources
returns-clause-sources g c = sources_of g.A.Address.family (octets_in c.args.self.now)
