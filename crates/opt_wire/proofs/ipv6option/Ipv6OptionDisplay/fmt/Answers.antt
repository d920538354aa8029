use Rattle.opt_wire.proofs.Ipv6OptionGrammar.{front_of-refused}
use Rattle.opt_wire.proofs.ipv6option.Ipv6OptionDisplay.fmt.Goals as goal

pub returns-in-Err : goal.returns-in-Err
returns-in-Err g c =
    let none = rw (c.new_unchecked-option.ensures, c.octets.ensures) at c.in-Err.ensures.complete in
    record {
      shows = record { reads = λ v h. absurd (none v h); refuses = λ none. c.write-in-Err.ensures.writes };
      writes = rw (front_of-refused _ none) c.write-in-Err.ensures.writes;
    }
