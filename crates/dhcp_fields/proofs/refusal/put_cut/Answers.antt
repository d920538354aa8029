-- The kind, and the area.
use Rattle.std.proofs.Common.{refl}
use Rattle.wirebase.proofs.Sinks.{puts_four}
use Rattle.dhcp_fields.proofs.refusal.put_cut.Goals as goal

pub returns : goal.returns
returns g c =
    puts_four g.S.Sink.took _ _ _ _ _ _ _ _ _ _ c.put_str-3.result c.in_ok-put_str.ensures c.in_ok-put_number.ensures
    c.in_ok-put_str-2.ensures (rw c.area_name.ensures at c.put_str-3.ensures) refl
