-- The head is read, and then the rest, or it is passed over.
use Rattle.std.proofs.Common.{◌∙◌}
use Rattle.capture.specs.private.Unit.{no_head}
use Rattle.capture.proofs.Filling.{fills_reads, reads_whole}
use Rattle.capture.proofs.Sections.{if_ok}
use Rattle.capture.proofs.unit.read_record_parts.Goals as goal

pub returns-in-Ok-clause-reads : goal.returns-in-Ok-clause-reads
returns-in-Ok-clause-reads g c =
    if_ok _ _ c.read_rest.result
    (λ taken t all done few before.
    let reads = fills_reads all _ _ _ _ done _ few before (rw c.LEN.ensures at c.in_ok-read_onto.ensures.fills) in
    t c.args.order all (reads_whole all _ _ _ reads (rw c.as_slice.ensures.value at c.in-Ok.ensures.there))
    (rw (c.as_slice.ensures.value ∙ reads.front) at c.in-Ok.ensures.sound)) c.read_rest.ensures.reads

pub returns-in-Err-clause-reads : goal.returns-in-Err-clause-reads
returns-in-Err-clause-reads g c all done few before =
    let reads = fills_reads all _ _ _ _ done _ few before (rw c.LEN.ensures at c.in_ok-read_onto.ensures.fills) in
    no_head (rw (c.as_slice.ensures.value ∙ reads.front) at c.in-Err.ensures.ends)
