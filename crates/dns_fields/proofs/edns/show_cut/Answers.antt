use Rattle.packet_fields.proofs.EntryChains.{cells_last}
use Rattle.dns_fields.proofs.edns.show_cut.Goals as goal

pub returns : goal.returns
returns g c = rw c.in-Some.is (cells_last _ _ c.show_why.result c.in_ok-keyed_cell.ensures c.show_why.ensures)
