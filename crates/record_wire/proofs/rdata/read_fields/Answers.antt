use Rattle.record_wire.proofs.Words.{◌∙◌, ap, fields, sym}
use Rattle.record_wire.proofs.rdata.read_fields.Goals as goal

pub returns-in_err-read-clause-complete : goal.returns-in_err-read-clause-complete
returns-in_err-read-clause-complete c = λ value is. absurd (c.in_err-read.ensures.complete is.0 is.1)

pub returns-clause-complete : goal.returns-clause-complete
returns-clause-complete c = λ value is. ap fields (c.in_ok-read.ensures.complete is.0 is.1) ∙ sym is.2
