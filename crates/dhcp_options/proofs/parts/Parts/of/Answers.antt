use Rattle.dhcp_options.proofs.PartLists.{parts-fit, parts-is, parts-one}
use Rattle.dhcp_options.proofs.parts.Parts.of.Goals as goal

pub returns-clause-parts : goal.returns-clause-parts
returns-clause-parts c =
    let made = c.new.ensures in
    parts-is c.args.octets.now c.of.result c.new.result c.of.ensures.overload made.areas made.bytes

pub returns-clause-unique : goal.returns-clause-unique
returns-clause-unique c = λ others parts.
    let made = c.new.ensures in
    parts-one c.args.octets.now c.of.result c.new.result others c.of.ensures.unique made.areas made.bytes parts

pub returns-clause-fits : goal.returns-clause-fits
returns-clause-fits c = λ kind.
    parts-fit kind c.args.octets.now c.of.result c.new.result c.requires c.new.ensures.areas
