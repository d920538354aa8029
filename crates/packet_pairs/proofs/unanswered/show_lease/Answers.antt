-- The kind, the client, the number and what it awaits.
use Rattle.packet_fields.proofs.Fields.{◌and◌, prints_last}
use Rattle.packet_pairs.proofs.unanswered.show_lease.Goals as goal

pub returns : goal.returns
returns g c =
    prints_last _ _ _ (c.in_ok-field.ensures and c.in_ok-show_client.ensures and c.in_ok-field-2.ensures)
    c.show_reply.ensures
