-- The command and what the packet's digits spell make the shape.
use Rattle.std.proofs.Common.{[], ◌∙◌, arith, sym}
use Rattle.dump_lines.proofs.Shaping.{shape_of-alone, shape_of-command}
use Rattle.dump_lines.proofs.shape.Shape.of_words.Goals.{in_default-2-via-in-Some-2+else-reads}
use Rattle.dump_lines.proofs.shape.Shape.of_words.Goals.{in_default-2-via-in_default-2}
use Rattle.dump_lines.proofs.shape.Shape.of_words.Goals as goal

pub returns-in_default-clause-shape : goal.returns-in_default-clause-shape
returns-in_default-clause-shape c =
    let shape = shape_of-command (λ word. word.now) c.args.words.now (record { ref_ptr = (0, 0); now = [] })
    c.requires c.in-len2-up.len_at_least in
    sym (rw (← c.of.ensures, c.in_default.is) at shape)

pub returns-in-len1-clause-shape : goal.returns-in-len1-clause-shape
returns-in-len1-clause-shape c =
    sym (shape_of-alone (λ word. word.now) c.args.words.now
    (omega (arith, c.in-len1.len_at_least, c.in-len1.len_below)))

pub returns-in-Some-2-clause-shape : goal.returns-in-Some-2-clause-shape
returns-in-Some-2-clause-shape c =
    let shape = shape_of-command (λ word. word.now) c.args.words.now (record { ref_ptr = (0, 0); now = [] })
    c.requires c.in-len2-up.len_at_least in
    let packet = rw c.in-Some-2.is at c.in_ok-packet-in-len2-up.ensures.value in
    sym (rw (← c.of.ensures, c.in-Some.is, ← packet, sym c.reads.ensures ∙ c.if-reads.true) at shape)

pub returns-in_default-2-clause-shape : goal.returns-in_default-2-clause-shape
returns-in_default-2-clause-shape c =
    let shape = shape_of-command (λ word. word.now) c.args.words.now (record { ref_ptr = (0, 0); now = [] })
    c.requires c.in-len2-up.len_at_least in
    elim c.in_default-2.branch [
      | in_default-2-via-in-Some-2+else-reads w ↦
          let packet = rw w.in-Some-2.is at c.in_ok-packet-in-len2-up.ensures.value in
          sym (rw (← c.of.ensures, c.in-Some.is, ← packet, sym w.reads.ensures ∙ w.if-reads.false) at shape)
      | in_default-2-via-in_default-2 w ↦
          let packet = rw w.in_default-2.is at c.in_ok-packet-in-len2-up.ensures.value in
          sym (rw (← c.of.ensures, c.in-Some.is, ← packet) at shape)
    ]
