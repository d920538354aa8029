-- The first octet, and the others after colons.
use Rattle.packet_fields.proofs.Lists.{colons-some}
use Rattle.std.proofs.Common.{refl}
use Rattle.wirebase.proofs.Sinks.{puts_two}
use Rattle.packet_fields.proofs.value.ColonsText.put_into.Goals as goal

pub returns : goal.returns
returns g c =
    rw (colons-some c.args.self.0.now c.in-len1-up.len_at_least)
    (puts_two g.S.Sink.took _ _ _ _ _ _ c.put_behind_colons.result c.in_ok-put_hex.ensures
    c.put_behind_colons.ensures refl)
