use Rattle.record_wire.proofs.Words.{◌≤◌, ◌∙◌, arith, eqb-false, inl, inr, length, sym}
use Rattle.record_wire.proofs.TornNames.{torn_cut, no_part_cut, no_part_type}
use Rattle.record_wire.proofs.refusal.why_torn.Goals as goal

pub returns-then-first-lt-LABEL_END : goal.returns-then-first-lt-LABEL_END
returns-then-first-lt-LABEL_END c =
    let left = c.args.octets.now in
    no_part_cut left (torn_cut left c.requires (inl c.if-first-lt-LABEL_END.true))

pub returns-then-first-ge-POINTER : goal.returns-then-first-ge-POINTER
returns-then-first-ge-POINTER c =
    let left = c.args.octets.now in
    no_part_cut left (torn_cut left c.requires (inr c.if-first-ge-POINTER.true))

pub returns : goal.returns
returns c =
    let left = c.args.octets.now in
    let some : 1 ≤ length left =
    omega (arith, eqb-false (length left) 0 (sym c.is_empty.ensures ∙ c.if-is_empty.false)) in
    no_part_type left some (omega (arith, c.if-first-lt-LABEL_END.false)) (omega (arith, c.if-first-ge-POINTER.false))
