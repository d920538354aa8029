use Rattle.std.proofs.Common.{rules, ◌∙◌}
use Rattle.group_wire.specs.Family.{width}
use Rattle.group_wire.proofs.Families.{part_behind, rest_behind}
use Rattle.group_wire.proofs.RecordsAhead.{record_of}
use Rattle.group_wire.proofs.record.read_record.Goals as goal

pub returns : goal.returns
returns g c =
    record_of (width g.A.Address.family) c.args.octets.now c.from.result (g.A.Address.bytes c.read.result)
    c.of_octets.result.octets.now _ c.requires (search rules) (search rules)
    (c.of_octets.ensures ∙ part_behind c.args.octets.now _ _ _ _ (search rules) (search rules))
    (rest_behind c.args.octets.now _ _ (search rules))
