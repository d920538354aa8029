-- A word, and the digits of two octets.
use Rattle.packet_fields.proofs.Printing.{gained, gains_last, put_on_ok}
use Rattle.wirebase.specs.ByteWriter.{be16}
use Rattle.dump_captures.proofs.counts.write_ether_type.Goals as goal

pub returns : goal.returns
unfolding be16
returns g c =
    gains_last _ _ c.put_octets.result (gained _ _ _ c.in_ok-write_all.ensures.bytes)
    (put_on_ok g.W.Write.contents _ _ _ c.put_octets.result (rw c.to_be_bytes.ensures at c.put_octets.ensures))
