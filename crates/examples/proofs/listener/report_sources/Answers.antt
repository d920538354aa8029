use Rattle.std.proofs.Common.{◌≤◌, length, take, subst, arith}
use Rattle.std.proofs.lemmas.Option.{IfSome_then}
use Rattle.control_wire.specs.Mld.{report}
use Rattle.examples.specs.Listener.{IsReport}
use Rattle.examples.proofs.listener.report_sources.Goals as goal

pub returns-clause-reports : goal.returns-clause-reports
returns-clause-reports c =
    let few : length c.args.sources.now ≤ 1424 = omega arith in
    IfSome_then c.write.result c.write.ensures.written (λ n e. (
      few,
      subst (λ d. IsReport c.args.own.now (report 1 d) (take n c.write.new.out)) c.write_record.ensures e,
    ))
