-- The reason is that of the name.
use Rattle.record_wire.proofs.Words.{◌≡◌, Err, IfErr, rules, subst, sym, view_octets}
use Rattle.record_wire.specs.RData.{rdata_of}
use Rattle.record_wire.specs.RecordText.{RefusesNameIn}
use Rattle.record_wire.proofs.rdata.RData.text.Goals as goal

pub returns-in_err-read_or_refusal-in-Mx-clause-told : goal.returns-in_err-read_or_refusal-in-Mx-clause-told
returns-in_err-read_or_refusal-in-Mx-clause-told c =
    let why = c.in_err-read_or_refusal-in-Mx.field-0.0 in
    let failed : c.from_residual-in_err-read_or_refusal-in-Mx.result ≡ Err why = search rules in
    let told : RefusesNameIn (view_octets c.args.packet.now) (rdata_of c.args.self.now) why =
    rw c.in-Mx.is c.in_err-read_or_refusal-in-Mx.ensures.told in
    subst (λ r. IfErr r (λ w. RefusesNameIn (view_octets c.args.packet.now) (rdata_of c.args.self.now) w)) (sym failed)
    told

pub returns-in_err-read_or_refusal-in-Srv-clause-told : goal.returns-in_err-read_or_refusal-in-Srv-clause-told
returns-in_err-read_or_refusal-in-Srv-clause-told c =
    let why = c.in_err-read_or_refusal-in-Srv.field-0.0 in
    let failed : c.from_residual-in_err-read_or_refusal-in-Srv.result ≡ Err why = search rules in
    let told : RefusesNameIn (view_octets c.args.packet.now) (rdata_of c.args.self.now) why =
    rw c.in-Srv.is c.in_err-read_or_refusal-in-Srv.ensures.told in
    subst (λ r. IfErr r (λ w. RefusesNameIn (view_octets c.args.packet.now) (rdata_of c.args.self.now) w)) (sym failed)
    told
