-- The words, one after another.
use Rattle.packet_fields.proofs.Printing.{◌then◌, gains_last}
use Rattle.dump_captures.specs.Heading.{way_words}
use Rattle.dump_captures.proofs.heading.show_way.Goals as goal

pub returns : goal.returns
unfolding way_words
returns g c =
    gains_last _ _ _
    (c.in_ok-show_tags.ensures then c.in_ok-show_tunnels.ensures then c.in_ok-show_frames.ensures
    then c.in_ok-show_hop_by_hop.ensures)
    (rw c.is_over_tcp.ensures at c.show_transport.ensures)
