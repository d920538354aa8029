use Rattle.opt_wire.proofs.Words.{◌∙◌, List, ap, map, sym, take_all}
use Rattle.opt_wire.specs.declared.ipv6option.Repr.{Repr}
use Rattle.opt_wire.specs.Ipv6Option.{value_of as option_value}
use Rattle.opt_wire.specs.Ipv6Hbh.{value_of, text_len}
use Rattle.opt_wire.proofs.Ipv6HbhText.{length-texts}
use Rattle.opt_wire.proofs.ipv6hbh.Repr.buffer_len.Goals as goal

pub returns-clause-exact : goal.returns-clause-exact
returns-clause-exact c = λ enough.
    let whole = take_all c.loop-option.option-index c.as_slice-options.result.now c.loop-option-test.false
    ∙ c.as_slice-options.ensures.value in
    c.loop-option.invariant.so_far ∙ ap (λ (options : List Repr). text_len (map option_value options)) whole
    ∙ sym (length-texts (value_of c.args.self.now) enough)
