-- The entries of the object, by its class.
use Rattle.std.proofs.Common.{◌≡◌, ◌≢◌, arith, refl, rules}
use Rattle.extension_wire.specs.Object.{value_of}
use Rattle.icmp_fields.specs.Extensions.{HasLabels, interface_information, other}
use Rattle.icmp_fields.proofs.ExtensionEntries.{object_printed, some_object_printed}
use Rattle.icmp_fields.proofs.extensions.objects.show_object.Goals as goal

pub returns-then-object-eq-CLASS : goal.returns-then-object-eq-CLASS
returns-then-object-eq-CLASS g c =
    let class : c.args.object.now.class ≡ 2 = omega arith in
    some_object_printed _ _ _ _ _ _ _ (λ e is. interface_information class e is refl) c.show_interface.ensures

pub returns : goal.returns
returns g c =
    let none : HasLabels (value_of c.args.object.now) → ⊥ = search rules in
    let class : c.args.object.now.class ≢ 2 = search rules in
    object_printed _ _ _ _ _ _ _ (other none class refl) c.show_plain.ensures
