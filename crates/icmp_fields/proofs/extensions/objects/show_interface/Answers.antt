-- What the object says, or why it says nothing.
use Rattle.std.proofs.Common.{refl}
use Rattle.icmp_fields.specs.Extensions.{read, refused}
use Rattle.icmp_fields.proofs.ExtensionEntries.{some_printed}
use Rattle.icmp_fields.proofs.extensions.objects.show_interface.Goals as goal

pub returns-in-Ok : goal.returns-in-Ok
returns-in-Ok g c =
    let is = c.in-Ok.ensures.sound in
    let printed = rw (c.behind_parts-behind.ensures is) at c.show_information.ensures in
    some_printed _ _ _ _ _ _ _ (read _ is refl) printed

pub returns-in-Err : goal.returns-in-Err
returns-in-Err g c =
    some_printed _ _ _ _ _ _ _ (refused _ c.in-Err.ensures.told refl) c.show_plain.ensures
