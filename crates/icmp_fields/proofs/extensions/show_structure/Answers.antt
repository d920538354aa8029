-- The objects, or why there are none.
use Rattle.std.proofs.Common.{refl, rules}
use Rattle.extension_wire.specs.ExtensionDisplay.{structure_refusal_display}
use Rattle.icmp_fields.specs.Extensions.{AreStructureItems, LacksObjects, no_object_text, no_objects, objects, refused}
use Rattle.icmp_fields.specs.Extensions.{refused_structure_items}
use Rattle.icmp_fields.proofs.ExtensionEntries.{some_as}
use Rattle.icmp_fields.proofs.Items.{printed_items}
use Rattle.icmp_fields.proofs.extensions.show_structure.Goals as goal

pub returns-in-Some : goal.returns-in-Some
returns-in-Some g c =
    let octets = c.args.octets.now in
    let why = c.in-Some.refusal in
    printed_items (AreStructureItems c.args.is_whole octets)
    (refused_structure_items (structure_refusal_display why) octets) _ _ _ _
    (refused why c.in-Some.ensures refl) c.show_refused_structure.ensures

pub returns-then-lacks_objects : goal.returns-then-lacks_objects
returns-then-lacks_objects g c =
    let octets = c.args.octets.now in
    let none : LacksObjects c.args.is_whole octets = search rules in
    printed_items (AreStructureItems c.args.is_whole octets) (refused_structure_items no_object_text octets) _ _ _ _
    (no_objects c.in_default.ensures none refl) c.show_refused_structure-then-lacks_objects.ensures

pub returns : goal.returns
returns g c =
    let some : LacksObjects c.args.is_whole c.args.octets.now → ⊥ = search rules in
    let printed = rw c.split_at.ensures.back at c.show_list.ensures in
    some_as _ _ _ _ _ _ (λ items are. objects c.in_default.ensures some are) printed
