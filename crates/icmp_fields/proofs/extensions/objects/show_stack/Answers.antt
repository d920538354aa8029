-- An entry for each label, or the octets.
use Rattle.std.proofs.Common.{◌∷◌, [], refl}
use Rattle.extension_wire.specs.Mpls.{AreEntries}
use Rattle.icmp_fields.specs.Extensions.{labels, no_labels}
use Rattle.icmp_fields.proofs.ExtensionEntries.{object_printed, objects_printed}
use Rattle.icmp_fields.proofs.extensions.objects.show_stack.Goals as goal

pub returns-in-Err : goal.returns-in-Err
returns-in-Err g c =
    object_printed _ _ _ _ _ _ _ (no_labels c.requires c.in-Err.ensures.told c.in-Err.refusal refl)
    c.show_plain.ensures

pub returns-in_default : goal.returns-in_default
returns-in_default g c =
    let (whole, octets_are) = c.in-Ok.ensures.sound in
    let are : AreEntries c.args.object.now.payload.now [] =
    rw (octets_are, c.in_default.ensures.steps.0) at c.iter-entries.ensures.entries in
    object_printed _ _ _ _ _ _ _ (labels c.requires whole [] are refl) c.show_plain-in_default.ensures

pub returns : goal.returns
returns g c =
    let (whole, octets_are) = c.in-Ok.ensures.sound in
    let all = c.in-Some.first ∷ c.next.new.self in
    let are : AreEntries c.args.object.now.payload.now all =
    rw (octets_are, c.in-Some.ensures.steps) at c.iter-entries.ensures.entries in
    objects_printed _ _ _ _ _ _ _ _ _ (labels c.requires whole all are refl) c.in_ok-show_label.ensures
    c.show_labels.ensures
