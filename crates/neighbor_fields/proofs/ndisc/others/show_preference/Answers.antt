-- The name of the preference.
use Rattle.std.proofs.Common.{◌∙◌, ap}
use Rattle.packet_fields.specs.Fields.{leaf_or_missing, text}
use Rattle.packet_fields.proofs.EntryChains.{name_leaf}
use Rattle.neighbor_fields.proofs.ndisc.others.show_preference.Goals as goal

pub returns : goal.returns
returns g c =
    let name_is = name_leaf c.preference_name.result ∙ ap (leaf_or_missing text) c.preference_name.ensures in
    rw name_is at c.keyed_cell.ensures
