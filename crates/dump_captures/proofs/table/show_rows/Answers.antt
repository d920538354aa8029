-- Each turn prints the row of one kind more.
use Rattle.packet_fields.proofs.Printing.{gains_both, one_more}
use Rattle.dump_captures.specs.Kinds.{kinds}
use Rattle.dump_captures.specs.Table.{chosen_text}
use Rattle.dump_captures.specs.Tally.{tally_of}
use Rattle.dump_captures.specs.declared.kind.Kind.TheVariants.{Icmp4}
use Rattle.dump_captures.proofs.table.show_rows.Goals as goal

pub loop-kind-preserved : goal.loop-kind-preserved
loop-kind-preserved g c =
    rw (one_more (chosen_text c.args.only.now (tally_of c.args.tally.now).rows) kinds c.loop-kind.kind-index Icmp4
    c.loop-kind-test.true)
    (gains_both _ _ _ _ _ c.loop-kind.invariant c.in_ok-show_chosen.ensures)
