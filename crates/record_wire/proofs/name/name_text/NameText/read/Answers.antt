-- The text that was put, or what the name's octets have.
use Rattle.record_wire.proofs.Words.{IsAscii, subst, sym}
use Rattle.record_wire.proofs.NameReads.{reads_usual, usual_ascii}
use Rattle.record_wire.proofs.name.name_text.NameText.read.Goals as goal

pub invariant_of-self-clause-ascii : goal.invariant_of-self-clause-ascii
invariant_of-self-clause-ascii c =
    let (labels, usual, is) = c.in-Some.ensures.text in subst IsAscii (sym is) (usual_ascii labels usual.usual)

pub returns-in-Some-clause-reads : goal.returns-in-Some-clause-reads
returns-in-Some-clause-reads c =
    let (labels, usual, is) = c.in-Some.ensures.text in rw c.requires (reads_usual _ _ _ labels usual is)
