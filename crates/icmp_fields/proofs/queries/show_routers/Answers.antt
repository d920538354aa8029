-- What precedes the entries, the entries, and what follows them.
use Rattle.packet_fields.proofs.EntryChains.{list_printed}
use Rattle.icmp_fields.proofs.queries.show_routers.Goals as goal

pub returns : goal.returns
returns g c =
    list_printed _ _ _ _ _ _ _ c.close_list.result c.in_ok-open_list.ensures c.in_ok-show_each.ensures
    c.close_list.ensures
