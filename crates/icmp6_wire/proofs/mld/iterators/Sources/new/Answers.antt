use Rattle.std.proofs.Common.{refl}
use Rattle.icmp6_wire.proofs.MldIterators.{sources_of}
use Rattle.icmp6_wire.proofs.mld.iterators.Sources.new.Goals as goal

pub returns : goal.returns
returns c = sources_of c.args.count c.min-count.result c.args.octets.now _ c.min-count.ensures refl
