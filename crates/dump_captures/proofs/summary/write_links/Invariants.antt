-- The links so far.
use Rattle.std.proofs.Common.{take}
use Rattle.packet_fields.specs.Output.{Gains}
use Rattle.dump_captures.specs.Summary.{links_text}
use Rattle.dump_captures.proofs.summary.write_links.Given as goal

abbrev pub invariant-loop-link : goal.invariant-loop-link
invariant-loop-link g l =
    Gains (g.W.Write.contents l.initial.output) (g.W.Write.contents l.output) (links_text (take l.link-index l.links))
