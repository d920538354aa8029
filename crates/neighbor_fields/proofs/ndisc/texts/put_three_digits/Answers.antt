-- Three digits in turn.
use Rattle.std.proofs.Common.{append_assoc, sym}
use Rattle.std.specs.Prelude.{◌/◌, ◌%◌, decimal}
use Rattle.wirebase.proofs.Sinks.{puts_three}
use Rattle.neighbor_fields.proofs.ndisc.texts.put_three_digits.Goals as goal

pub returns : goal.returns
returns g c =
    let n = c.args.octet in
    puts_three _ _ _ _ _ _ _ _ _ c.put_number-3.result c.in_ok-put_number.ensures c.in_ok-put_number-2.ensures
    c.put_number-3.ensures (sym (append_assoc (decimal (n / 100)) (decimal (n / 10 % 10)) (decimal (n % 10))))
