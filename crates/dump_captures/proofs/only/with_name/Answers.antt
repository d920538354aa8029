-- The packets of a kind are chosen too.
use Rattle.std.proofs.Common.{sym, ◌∙◌, arith}
use Rattle.dump_captures.proofs.Names.{with_name-icmp, with_name-kind}
use Rattle.dump_captures.proofs.only.with_name.Goals as goal

pub returns : goal.returns
returns c =
    with_name-kind c.args.name.now c.args.only c.in_ok-kind.kind c.place-2.result
    (sym c.eq.ensures ∙ c.if-eq.false) (sym c.eq-2.ensures ∙ c.if-eq-2.false) (sym c.in_ok-kind.ensures)
    c.place-2.ensures.value (omega arith)

pub returns-then-eq-2 : goal.returns-then-eq-2
returns-then-eq-2 c =
    with_name-icmp c.args.name.now c.args.only c.place.result c.place-then-eq-2.result
    (sym c.eq.ensures ∙ c.if-eq.false) (sym c.eq-2.ensures ∙ c.if-eq-2.true) c.place.ensures.value
    c.place-then-eq-2.ensures.value (omega arith) (omega arith)
