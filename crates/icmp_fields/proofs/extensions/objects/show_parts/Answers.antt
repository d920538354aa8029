-- The parts, one after another.
use Rattle.std.proofs.Common.{◌∙◌, ap}
use Rattle.packet_fields.specs.Fields.{leaf_or_missing, text}
use Rattle.packet_fields.specs.Texts.{address_text}
use Rattle.packet_fields.proofs.Fields.{cells_both}
use Rattle.packet_fields.proofs.EntryChains.{cells_last}
use Rattle.icmp_fields.specs.Texts.{name_text}
use Rattle.icmp_fields.proofs.ExtensionEntries.{mapped_leaf}
use Rattle.icmp_fields.proofs.extensions.objects.show_parts.Goals as goal

pub returns : goal.returns
returns g c =
    let address_is = mapped_leaf (λ a. address_text a.0.now) c.address_of.result
    ∙ ap (leaf_or_missing text) c.address_of.ensures in
    let name_is = mapped_leaf (λ n. name_text n.0.now) c.name_of.result ∙ ap (leaf_or_missing text) c.name_of.ensures in
    let address = rw address_is at c.in_ok-keyed_cell-2.ensures in
    let name = rw name_is at c.in_ok-keyed_cell-3.ensures in
    let two = cells_both _ _ _ _ _ _ c.in_ok-keyed_cell.ensures address in
    cells_last _ _ _ (cells_both _ _ _ _ _ _ two name) c.keyed_cell-4.ensures
