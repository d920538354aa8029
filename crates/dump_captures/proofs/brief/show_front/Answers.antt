-- The words, one after another.
use Rattle.packet_fields.proofs.Printing.{◌then◌, gained, gains_last}
use Rattle.dump_captures.specs.Brief.{brief_front}
use Rattle.dump_captures.proofs.brief.show_front.Goals as goal

pub returns : goal.returns
unfolding brief_front
returns g c =
    gains_last _ _ _
    (c.in_ok-put.ensures.text then gained _ _ _ c.in_ok-write_all.ensures.bytes then c.in_ok-show_time.ensures
    then c.in_ok-show_addresses.ensures then c.in_ok-show_more.ensures)
    c.show_way.ensures
