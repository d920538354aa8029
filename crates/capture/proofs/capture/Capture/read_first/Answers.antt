-- A file begins with a section header, or with a header of its own.
use Rattle.std.proofs.Common.{sym, subst, ◌∙◌, arith, refl}
use Rattle.capture.specs.Pcap.{IsFileHeader, FileEnds}
use Rattle.capture.specs.Pcapng.{IsSectionKind}
use Rattle.capture.proofs.Filling.{first_reads, fills_reads}
use Rattle.capture.proofs.Sections.{told, told_not, if_ok}
use Rattle.capture.proofs.Units.{first_gives, file_gives, file_ends}
use Rattle.capture.proofs.capture.Capture.read_first.Goals as goal

pub returns-then-begins_section-clause-gives : goal.returns-then-begins_section-clause-gives
returns-then-begins_section-clause-gives g c =
    if_ok _ _ c.read_block.result
    (λ s t all none.
    let reads = first_reads all _ _ _ _ 4 c.requires.empty none c.in_ok-read_onto.ensures.fills in
    first_gives _ all _ c.requires.start
    (subst IsSectionKind (c.as_slice.ensures.value ∙ reads.front)
    (told _ c.begins_section.ensures c.if-begins_section.true)) s (t all 4 (omega arith) reads))
    c.read_block.ensures.gives

pub returns-in-Ok-clause-gives : goal.returns-in-Ok-clause-gives
returns-in-Ok-clause-gives g c all none =
    let reads = first_reads all _ _ _ _ 4 c.requires.empty none c.in_ok-read_onto.ensures.fills in
    let more = fills_reads all _ _ _ _ 4 24 (omega arith) reads c.in_ok-read_onto-2.ensures.fills in
    file_gives _ all _ c.in-Ok.header c.requires.start refl more
    (subst (λ l. IsFileHeader l c.in-Ok.header) c.as_slice-2.ensures.value c.in-Ok.ensures.sound)

pub returns-in-Err-clause-gives : goal.returns-in-Err-clause-gives
returns-in-Err-clause-gives g c all none =
    let reads = first_reads all _ _ _ _ 4 c.requires.empty none c.in_ok-read_onto.ensures.fills in
    let more = fills_reads all _ _ _ _ 4 24 (omega arith) reads c.in_ok-read_onto-2.ensures.fills in
    file_ends _ all _ _ _ c.requires.start reads.front
    (λ is. told_not _ c.begins_section.ensures c.if-begins_section.false
    (subst IsSectionKind (sym c.as_slice.ensures.value) is)) more c.in-Err.ending
    (subst (λ l. FileEnds l c.in-Err.ending) c.as_slice-2.ensures.value c.in-Err.ensures.ends)
