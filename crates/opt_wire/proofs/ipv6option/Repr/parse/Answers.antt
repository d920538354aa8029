use Rattle.opt_wire.proofs.Words.{all_rewrites, value_of}
use Rattle.opt_wire.specs.Ipv6Option.{view_octets, format}
use Rattle.opt_wire.proofs.Ipv6OptionFormat.{option_format}
use Rattle.opt_wire.proofs.Ipv6OptionGrammar.{complete}
use Rattle.opt_wire.proofs.ipv6option.Repr.parse.Goals as goal

pub returns-clause-complete : goal.returns-clause-complete
returns-clause-complete c =
    complete c.read.result (view_octets c.args.opt.now) c.read.ensures.sound c.read.ensures.refuses

pub returns-clause-rewrites : goal.returns-clause-rewrites
returns-clause-rewrites c =
    all_rewrites format option_format value_of (view_octets c.args.opt.now)
    c.read.result c.are_bytes.ensures c.read.ensures.sound
