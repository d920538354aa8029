-- The message is no exchange, or one that the questions see.
use Rattle.dump_captures.specs.Pairing.{exchange}
use Rattle.dump_captures.proofs.session.Session.pair.Goals as goal

pub returns-in-Ok-clause-answers : goal.returns-in-Ok-clause-answers
returns-in-Ok-clause-answers c =
    exchange _ (rw c.in-Some.is at c.exchange_of.ensures) (rw c.nanoseconds-time.ensures at c.in-Ok.ensures.sees)
