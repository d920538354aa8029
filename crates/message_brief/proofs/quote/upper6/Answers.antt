-- What the headers lead to is what is computed.
use Rattle.std.proofs.Common.{refl, sym}
use Rattle.message_brief.proofs.Uppers.{upper_is}
use Rattle.message_brief.proofs.quote.upper6.Goals as goal

pub returns-in-Some-clause-protocol : goal.returns-in-Some-clause-protocol
returns-in-Some-clause-protocol c = rw (sym (upper_is _ _ _ c.upper.ensures), c.in-Some.is) refl

pub returns-in-Some-clause-ports : goal.returns-in-Some-clause-ports
returns-in-Some-clause-ports c = rw (sym (upper_is _ _ _ c.upper.ensures), c.in-Some.is) c.ports_of.ensures

pub returns-in-None-clause-protocol : goal.returns-in-None-clause-protocol
returns-in-None-clause-protocol c = rw (sym (upper_is _ _ _ c.upper.ensures), c.in-None.is) refl

pub returns-in-None-clause-ports : goal.returns-in-None-clause-ports
returns-in-None-clause-ports c = rw (sym (upper_is _ _ _ c.upper.ensures), c.in-None.is) refl
