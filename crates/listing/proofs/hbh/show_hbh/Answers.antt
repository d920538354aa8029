-- Each turn prints one option, and at the end all options of the header are printed.
use Rattle.listing.proofs.Words.{◌∙◌, arith, take_all}
use Rattle.opt_wire.specs.Ipv6Hbh.{value_of}
use Rattle.listing.proofs.Printing.{listed, refused_on_ok}
use Rattle.listing.proofs.hbh.show_hbh.Goals as goal

pub returns-in_default : goal.returns-in_default
returns-in_default g c =
    refused_on_ok _ _ _ _ (rw c.new_unchecked.ensures at c.in_default.ensures.complete) c.line.ensures

pub returns : goal.returns
returns g c =
    let all = take_all c.loop-option.option-index c.as_slice-option-items.result.now (omega arith)
    ∙ c.as_slice-option-items.ensures.value in
    listed _ (value_of c.in-Ok.header) (rw c.new_unchecked.ensures at c.in-Ok.ensures.sound)
    (rw all at c.loop-option.invariant)
