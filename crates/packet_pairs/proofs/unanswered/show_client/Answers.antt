-- The client's address by its octets.
use Rattle.std.proofs.Common.{List, OnOk, subst, ℕ}
use Rattle.std.specs.Prelude.{codes}
use Rattle.packet_fields.specs.Fields.{text}
use Rattle.packet_fields.specs.Prints.{Prints}
use Rattle.wirebase.specs.Hexadecimal.{hex_colons}
use Rattle.packet_pairs.specs.Shown.{one}
use Rattle.packet_pairs.proofs.unanswered.show_client.Goals as goal

pub returns : goal.returns
returns g c =
    subst (λ (octets : List ℕ). OnOk c.field.result (Prints c.args.form (g.W.Write.contents c.args.output.now)
    (g.W.Write.contents c.field.new.output) (one (codes "client_hardware_address") (text (hex_colons octets)))))
    c.as_bytes.ensures c.field.ensures
