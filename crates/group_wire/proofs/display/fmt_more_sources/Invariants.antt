-- What is written, followed by the printed text of the sources that are left, is the printed text of all.
use Rattle.std.proofs.Common.{◌≡◌, ◌++◌, List, ℕ}
use Rattle.std.specs.Prelude.{codes, flat_map}
use Rattle.std.specs.Fmt.{HasWritten, IsPlainFormatter}
use Rattle.group_wire.proofs.display.fmt_more_sources.Given as goal

abbrev pub invariant-loop-source : goal.invariant-loop-source
invariant-loop-source g l =
    IsPlainFormatter l.fn.f → (done : List ℕ) × HasWritten g.W.Write.write_str_gives l.fn.f done l.f
    × (done ++ flat_map (λ one. codes "," ++ g.A.Address.display one) l.source-iterator
    ≡ flat_map (λ one. codes "," ++ g.A.Address.display one) l.fn.sources)
