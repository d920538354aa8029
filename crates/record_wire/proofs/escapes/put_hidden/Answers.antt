use Rattle.record_wire.proofs.Words.{◌∙◌, ◌++◌, ap, arith, sym, take}
use Rattle.record_wire.proofs.Pieces.{number_text, four_set}
use Rattle.record_wire.proofs.escapes.put_hidden.Goals as goal

pub returns-clause-puts : goal.returns-clause-puts
returns-clause-puts c =
    four_set c.args.piece.now c.args.waiting _ _ _ _ (omega (arith, c.requires, c.told-piece))
    ∙ ap (λ t. take c.args.waiting c.args.piece.now ++ t)
    (sym (number_text c.args.byte c.ranges.byte.fits (sym c.is_ascii_graphic.ensures.value
    ∙ c.if-is_ascii_graphic.false)))
