use Rattle.std.proofs.Common.{◌∙◌, sym}
use Rattle.wirebase.proofs.Format.{round_trips}
use Rattle.wirebase.proofs.Pieces.{over-exact}
use Rattle.neighbor_wire.specs.Option.{value_of, text}
use Rattle.neighbor_wire.specs.OptionFormat.{format}
use Rattle.neighbor_wire.proofs.OptionFormat.{option_format}
use Rattle.neighbor_wire.proofs.OptionTexts.{length-text, value_whole}
use Rattle.neighbor_wire.proofs.option.NeighborOption.emit_into.Goals as goal

pub returns : goal.returns
returns c =
    let v = value_of c.args.self.now in
    let whole = length-text v (value_whole c.args.self.now) in
    record {
      written = c.write.ensures;
      exact = λ long. c.write.ensures ∙ over-exact c.args.octets.now (text v) (long ∙ sym whole);
      round_trips = round_trips format option_format v;
    }
