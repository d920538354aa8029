-- Their number, their protocols, and how many were put together.
use Rattle.std.proofs.lemmas.Bool.{ne_eqb}
use Rattle.packet_fields.proofs.Printing.{◌then◌, gained, gains_last}
use Rattle.dump_captures.proofs.summary.write_fragments.Goals as goal

pub returns : goal.returns
returns g c =
    rw (ne_eqb c.args.tally.now.fragments.all 0 c.if-tally-eq0.false)
    (gains_last _ _ c.write_further.result
    (gained _ _ _ c.in_ok-write_all.ensures.bytes then c.in_ok-put.ensures.text
    then gained _ _ _ c.in_ok-write_all-2.ensures.bytes then c.in_ok-write_counts.ensures) c.write_further.ensures)
