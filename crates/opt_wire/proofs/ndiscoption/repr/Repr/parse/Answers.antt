use Rattle.opt_wire.proofs.Words.{all_rewrites, view_octets}
use Rattle.opt_wire.specs.NdiscOptionRepr.{value_of, format}
use Rattle.opt_wire.proofs.NdiscOptionFormat.{ndisc_option_format}
use Rattle.opt_wire.proofs.NdiscOptionGrammar.{complete}
use Rattle.opt_wire.proofs.ndiscoption.repr.Repr.parse.Goals as goal

pub returns-clause-complete : goal.returns-clause-complete
returns-clause-complete c =
    complete c.read.result (view_octets c.args.opt.now) c.read.ensures.sound c.read.ensures.refuses

pub returns-clause-rewrites : goal.returns-clause-rewrites
returns-clause-rewrites c =
    all_rewrites format ndisc_option_format value_of (view_octets c.args.opt.now)
    c.read.result c.are_bytes.ensures c.read.ensures.sound
