use Rattle.std.proofs.lemmas.Result.{IfOk-weaker}
use Rattle.wirebase.specs.Format.{Rewrites}
use Rattle.neighbor_wire.specs.Option.{value_of, IsOption}
use Rattle.neighbor_wire.specs.OptionFormat.{format}
use Rattle.neighbor_wire.proofs.OptionFormat.{option_rewrites}
use Rattle.neighbor_wire.proofs.option.NeighborOption.parse.Goals as goal

pub returns-clause-rewrites : goal.returns-clause-rewrites
returns-clause-rewrites c =
    let bytes = c.args.octets.now in
    IfOk-weaker c.read.result (λ option. IsOption bytes (value_of option)) (λ option. Rewrites format (value_of option))
    (λ option read. option_rewrites bytes (value_of option) c.are_bytes.ensures read) c.read.ensures.sound
