-- The lines, one after another.
use Rattle.packet_fields.proofs.Printing.{◌then◌, gains_last}
use Rattle.listing.proofs.icmp6.show_param_problem.Goals as goal

pub returns : goal.returns
returns g c =
    let reason = rw c.from.ensures.value at c.in_ok-field.ensures in
    gains_last _ _ _ (c.in_ok-line.ensures then reason then c.in_ok-field-2.ensures) c.show_quote.ensures
