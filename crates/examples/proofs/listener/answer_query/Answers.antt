use Rattle.std.proofs.Common.{[], ◌∷◌, length, sym, subst, ap, ◌∙◌, arith}
use Rattle.std.proofs.lemmas.Bool.{eqb-true, eqb-false}
use Rattle.std.proofs.lemmas.List.{nil_from_length, length-map}
use Rattle.std.proofs.lemmas.Option.{IfSome_then}
use Rattle.control_wire.specs.Mld.{values_of, records, report, text_len}
use Rattle.control_wire.specs.MldRecord.{value_of}
use Rattle.examples.specs.Listener.{IsDue, all_groups, one_group, some_sources, record_of}
use Rattle.examples.proofs.Listeners.{sources_due, length_record}
use Rattle.examples.proofs.listener.answer_query.Goals as goal

pub returns-then-is_unspecified-clause-answered : goal.returns-then-is_unspecified-clause-answered
returns-then-is_unspecified-clause-answered c =
    let listening = c.args.listening.now in
    let some = eqb-false (length listening) 0 (sym c.is_empty.ensures ∙ c.if-is_empty.false) in
    let all = c.is_unspecified.ensures.0 c.if-is_unspecified.true in
    IfSome_then c.report.result c.report.ensures.reports (λ n e. (
      records (values_of listening),
      all_groups all (omega (arith, some, length-map listening value_of)),
      e,
    ))

pub returns-then-is_empty-2-clause-answered : goal.returns-then-is_empty-2-clause-answered
returns-then-is_empty-2-clause-answered c =
    let query = c.args.query.now in
    let none = nil_from_length query.sources.now
    (eqb-true (length query.sources.now) 0 (sym c.is_empty-2.ensures ∙ c.if-is_empty-2.true)) in
    let many = c.is_multicast.ensures.0 c.if-not-is_multicast.false in
    let listed = c.is_listed.ensures.0 c.if-not-is_listed.false in
    IfSome_then c.report-then-is_empty-2.result c.report-then-is_empty-2.ensures.reports (λ n e. (
      records (value_of c.listens.result ∷ []),
      subst (λ r. IsDue (values_of c.args.listening.now) query.group query.sources.now (records (r ∷ [])))
          (sym c.listens.ensures) (one_group many listed none),
      e,
    ))

pub returns-clause-answered : goal.returns-clause-answered
returns-clause-answered c =
    let query = c.args.query.now in
    let some = eqb-false (length query.sources.now) 0 (sym c.is_empty-2.ensures ∙ c.if-is_empty-2.false) in
    let many = c.is_multicast.ensures.0 c.if-not-is_multicast.false in
    let listed = c.is_listed.ensures.0 c.if-not-is_listed.false in
    IfSome_then c.report_sources.result c.report_sources.ensures.reports (λ n e. (
      report 1 (record_of query.group query.sources.now),
      some_sources many listed (omega (arith, some)) e.0,
      e.1,
    ))

pub returns-clause-answers : goal.returns-clause-answers
returns-clause-answers c = λ due is room.
    let query = c.args.query.now in
    let some = eqb-false (length query.sources.now) 0 (sym c.is_empty-2.ensures ∙ c.if-is_empty-2.false) in
    let owed = sources_due (values_of c.args.listening.now) query.group query.sources.now due
    (λ all. let t = c.is_unspecified.ensures.1 all in let f = c.if-is_unspecified.false in cc)
    (λ none. some (ap length none)) is in
    let len = ap text_len owed.is in
    c.report_sources.ensures.room owed.few
    (omega (arith, len, length_record query.group query.sources.now, room))
