-- The structure, where there is one.
use Rattle.icmp_fields.proofs.extensions.show_any.Goals as goal

pub returns-in-Some : goal.returns-in-Some
returns-in-Some g c =
    rw c.in-Some.is c.show_structure.ensures
