use Rattle.header_wire.proofs.PartsAhead.{fragments_are}
use Rattle.header_wire.proofs.fragments.Fragments.new.Goals as goal

pub returns-clause-parts : goal.returns-clause-parts
returns-clause-parts c = fragments_are c.args.room c.args.payload.now c.if-room-lt8.false
