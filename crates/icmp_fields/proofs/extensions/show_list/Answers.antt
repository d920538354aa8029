-- What precedes the objects, the objects, and what follows them.
use Rattle.icmp_fields.proofs.ExtensionEntries.{objects_listed}
use Rattle.icmp_fields.proofs.extensions.show_list.Goals as goal

pub returns : goal.returns
returns g c =
    objects_listed _ _ _ _ _ _ _ c.in_ok-open_list.ensures c.in_ok-show_objects.ensures c.close_list.ensures
