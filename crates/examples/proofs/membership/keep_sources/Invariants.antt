use Rattle.std.proofs.Common.{◌≡◌, ◌++◌, ◌+◌, length, take, drop}
use Rattle.std.specs.Prelude.{map}
use Rattle.group_wire.specs.Family.{width}
use Rattle.group_wire.specs.Sources.{octets_in, sources_in}
use Rattle.examples.proofs.membership.keep_sources.Given as goal

-- what is kept, followed by the sources that are left, is all of them
abbrev pub invariant-loop-source : goal.invariant-loop-source
invariant-loop-source g l = record {
  all : map g.A.Address.bytes (take l.count l.kept) ++ l.source-iterator
      ≡ sources_in (width g.A.Address.family) (octets_in l.sources);
  rest : drop l.count l.kept ≡ drop l.count l.fn.kept;
  fits : l.count + length l.source-iterator ≡ length (sources_in (width g.A.Address.family) (octets_in l.sources));
}
