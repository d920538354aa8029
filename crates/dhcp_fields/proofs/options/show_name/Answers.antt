use Rattle.dhcp_fields.proofs.options.show_name.Goals as goal

pub returns-in-Some : goal.returns-in-Some
returns-in-Some g c = rw c.in-Some.is c.cell.ensures
