-- The packet is none of IP, or its datagram is not there, or it is followed or not.
use Rattle.std.proofs.Common.{ap}
use Rattle.dump_captures.specs.Place.{stays, step_of, unreadable}
use Rattle.dump_captures.proofs.Places.{is_other, some_followed}
use Rattle.dump_captures.proofs.place.next_of.Goals as goal

pub returns-in_default-clause-last : goal.returns-in_default-clause-last
returns-in_default-clause-last c none = is_other c.args.step.now c.in_default.not-Datagram

pub returns-in-Ok-clause-follows : goal.returns-in-Ok-clause-follows
returns-in-Ok-clause-follows c =
    some_followed c.inside.result _ _ _ (ap step_of c.in-Datagram.is) c.in-Ok.ensures.sound c.inside.ensures.followed

pub returns-in-Ok-clause-last : goal.returns-in-Ok-clause-last
returns-in-Ok-clause-last c none =
    stays _ _ (ap step_of c.in-Datagram.is) c.in-Ok.ensures.sound (c.inside.ensures.stays none)

pub returns-in-Err-clause-last : goal.returns-in-Err-clause-last
returns-in-Err-clause-last c none =
    unreadable _ c.in-Err.field-0 (ap step_of c.in-Datagram.is) c.in-Err.ensures.refuses
