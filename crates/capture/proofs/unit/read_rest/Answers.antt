-- The rest of the record or block is read, or passed over.
use Rattle.std.proofs.Common.{arith, refl}
use Rattle.capture.specs.private.Unit.{cut}
use Rattle.capture.proofs.Filling.{fills_reads, reads_length, reads_fits, skips_reads, skips_short}
use Rattle.capture.proofs.Sections.{told, told_not}
use Rattle.capture.proofs.unit.read_rest.Goals as goal

pub returns-then-not-whole-clause-reads : goal.returns-then-not-whole-clause-reads
returns-then-not-whole-clause-reads g c order all reads is =
    cut c.args.head is (skips_short all _ _ _ _ c.requires.front reads
    (rw (c.if-not-whole.true, c.as_slice.ensures.value, c.unit_len-len.ensures) at c.in_ok-whole.ensures.skips)) refl

pub returns-then-not-is_read-clause-reads : goal.returns-then-not-is_read-clause-reads
returns-then-not-is_read-clause-reads g c order all reads is =
    let over =
    skips_reads all _ _ _ _ c.requires.front reads
    (rw (c.if-not-whole.false, c.as_slice.ensures.value, c.unit_len-len.ensures) at c.in_ok-whole.ensures.skips) in
    (is, told_not _ c.is_read.ensures c.if-not-is_read.true, over.0, over.1)

pub returns-then-as_slice-len-clause-reads : goal.returns-then-as_slice-len-clause-reads
returns-then-as_slice-len-clause-reads g c order all reads is =
    let len = g.H.UnitHead.form.unit_len c.args.head in
    let more =
    fills_reads all _ _ _ _ _ len c.requires.front reads (rw c.unit_len-len.ensures at c.in_ok-read_onto.ensures.fills)
    in
    cut c.args.head is (reads_length all _ _ len len more (omega arith)
    (rw (c.as_slice-2.ensures.value, c.unit_len-len.ensures) at c.if-as_slice-len.true)) refl

pub returns-clause-reads : goal.returns-clause-reads
returns-clause-reads g c order all reads is =
    let len = g.H.UnitHead.form.unit_len c.args.head in
    let more =
    fills_reads all _ _ _ _ _ len c.requires.front reads (rw c.unit_len-len.ensures at c.in_ok-read_onto.ensures.fills)
    in
    let fits =
    reads_fits all _ _ len more
    (rw (c.as_slice-2.ensures.value, c.unit_len-len.ensures) at c.if-as_slice-len.false) in
    (is, told _ c.is_read.ensures c.if-not-is_read.false, fits.1, more.front, more.rest)
