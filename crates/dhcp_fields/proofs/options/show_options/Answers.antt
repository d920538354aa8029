-- What precedes the entries, the entries, and what follows them.
use Rattle.packet_fields.proofs.EntryChains.{list_printed}
use Rattle.dhcp_fields.proofs.options.show_options.Goals as goal

pub returns : goal.returns
returns g c =
    λ parts are. list_printed _ _ _ _ _ _ _ c.close_list.result c.in_ok-open_list.ensures
    (c.in_ok-show_entries.ensures parts are) c.close_list.ensures
