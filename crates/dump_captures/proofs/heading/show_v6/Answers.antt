-- The words, one after another.
use Rattle.packet_fields.proofs.Printing.{◌then◌, gained, gains_last, put, put_on_ok}
use Rattle.dump_captures.proofs.heading.show_v6.Goals as goal

pub returns : goal.returns
returns g c =
    let contents = g.W.Write.contents in
    let source = put contents _ _ _ (rw c.source_port.ensures at c.in_ok-put_v6.ensures) in
    gains_last _ _ _
    (gained _ _ _ c.in_ok-write_all.ensures.bytes then source then gained _ _ _ c.in_ok-write_all-2.ensures.bytes)
    (put_on_ok contents _ _ _ _ (rw c.destination_port.ensures at c.put_v6-2.ensures))
