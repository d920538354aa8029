use Rattle.opt_wire.proofs.Words.{◌∙◌, refl, sym, view_octets}
use Rattle.opt_wire.proofs.NdiscOptionGrammar.{redirected-packet}
use Rattle.opt_wire.proofs.ndiscoption.repr.Repr.read.Goals as goal

pub returns-in_err-header-in-RedirectedHeader-clause-refuses :
    goal.returns-in_err-header-in-RedirectedHeader-clause-refuses
returns-in_err-header-in-RedirectedHeader-clause-refuses c = λ err.
    redirected-packet (view_octets c.args.opt.now) (sym c.option_type.ensures ∙ c.in-RedirectedHeader.is)
    (rw c.redirected.ensures at (c.in_err-header-in-RedirectedHeader.ensures.refuses refl))
