-- What precedes the tunnels, the tunnels, and what follows them.
use Rattle.packet_fields.proofs.Fields.{one_on_ok}
use Rattle.packet_fields.proofs.Printing.{◌then◌, gains_last}
use Rattle.packet_fields.specs.Fields.{item_text}
use Rattle.dump_captures.specs.Path.{tunnels_of}
use Rattle.dump_captures.proofs.TunnelEntries.{all_fit}
use Rattle.dump_captures.proofs.tunnels.show_list.Goals as goal

pub returns : goal.returns
unfolding item_text
returns g c =
    one_on_ok _ _ _ _ c.close_list.result (all_fit (tunnels_of c.args.tunnels.now))
    (gains_last _ _ c.close_list.result (c.in_ok-open_list.ensures then c.in_ok-show_entries.ensures)
    c.close_list.ensures)
