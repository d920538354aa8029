use Rattle.std.proofs.Common.{◌<◌, arith}
use Rattle.neighbor_wire.specs.Option.{value_of, units, body_len}
use Rattle.neighbor_wire.proofs.OptionChecks.{checks_canonical}
use Rattle.neighbor_wire.proofs.unwritten.check_value.Goals as goal

pub returns-clause-accepts : goal.returns-clause-accepts
returns-clause-accepts c =
    let v = value_of c.args.option.now in
    let few : units (body_len v) < 256 =
    omega (arith, c.if-whole_len.false, c.whole_len.ensures, c.body_len.ensures.value) in
    let same = checks_canonical v c.are_numbers.ensures in
    let content = c.check_content.ensures.accepts in
    (λ ok. same.0 (few, content.0 ok), λ is. content.1 (same.1 is).1)
