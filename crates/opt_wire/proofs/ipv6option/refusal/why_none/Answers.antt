use Rattle.opt_wire.proofs.Words.{◌∙◌, arith, sym}
use Rattle.opt_wire.specs.Ipv6Option.{view_octets, BeginsWhole}
use Rattle.opt_wire.proofs.Ipv6OptionGrammar.{misfit}
use Rattle.opt_wire.proofs.ipv6option.refusal.why_none.Goals as goal

pub returns : goal.returns
returns c =
    let bytes = view_octets c.args.opt.now in
    let whole : BeginsWhole bytes = (
      omega (arith, c.if-len.false),
      λ counted. omega (arith, c.if-len-end.false, c.data-end.ensures.end, c.data_len.ensures),
    ) in
    let is = misfit bytes whole c.requires in
    (whole, c.data_len-2.ensures, (is.0, λ two. is.1 (sym c.data_len-2.ensures ∙ two)))
