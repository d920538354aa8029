-- By the version.
use Rattle.dump_captures.proofs.place.captured_at.Goals as goal

pub returns-in-V4-clause-sound : goal.returns-in-V4-clause-sound
returns-in-V4-clause-sound c = rw c.in-V4.is c.parse_v4.ensures.sound

pub returns-in-V6-clause-sound : goal.returns-in-V6-clause-sound
returns-in-V6-clause-sound c = rw c.in-V6.is c.parse_v6.ensures.sound
