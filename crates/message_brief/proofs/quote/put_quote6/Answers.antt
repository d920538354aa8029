-- What is refused is no front of a packet.
use Rattle.std.proofs.Common.{◌≡◌, false}
use Rattle.std.proofs.lemmas.Bool.{and_parts, eqb-true, false_from_ne_true, false≢true, leb-true}
use Rattle.wirebase.proofs.Sinks.{put_none}
use Rattle.message_brief.specs.Quote.{quotes6}
use Rattle.message_brief.proofs.quote.put_quote6.Goals as goal

pub returns-in_default : goal.returns-in_default
returns-in_default g c =
    let refused : quotes6 c.args.octets.now ≡ false = false_from_ne_true _ (λ is.
    let both = and_parts _ _ is in
    false≢true (c.in_default.ensures.accepts.1
    (record { version = eqb-true _ _ both.1; header = leb-true _ _ both.0 }))) in
    rw refused (record { calls = put_none _ _ })
