use Rattle.record_wire.proofs.rdata.RDataDisplay.fmt.Goals as goal

pub returns-in-Mx-clause-writes : goal.returns-in-Mx-clause-writes
returns-in-Mx-clause-writes g c = rw c.in-Mx.is c.write-in-Mx.ensures.writes

pub returns-in-Srv-clause-writes : goal.returns-in-Srv-clause-writes
returns-in-Srv-clause-writes g c = rw c.in-Srv.is c.write-in-Srv.ensures.writes
