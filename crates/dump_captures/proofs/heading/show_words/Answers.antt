-- The words, one after another.
use Rattle.packet_fields.proofs.Printing.{◌then◌, gained, gains_last}
use Rattle.dump_captures.specs.Heading.{heading_words}
use Rattle.dump_captures.proofs.heading.show_words.Goals as goal

pub returns : goal.returns
unfolding heading_words
returns g c =
    gains_last _ _ _
    (c.in_ok-put.ensures.text then gained _ _ _ c.in_ok-write_all.ensures.bytes then c.in_ok-show_time.ensures
    then c.in_ok-show_addresses.ensures then c.in_ok-show_more.ensures then c.in_ok-show_way.ensures
    then gained _ _ _ c.in_ok-write_all-2.ensures.bytes)
    (rw (c.name.ensures, c.kind.ensures) at c.put-2.ensures.text)
