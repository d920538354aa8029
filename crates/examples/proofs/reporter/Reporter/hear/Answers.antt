use Rattle.std.proofs.Common.{◌≡◌}
use Rattle.group_wire.specs.Membership.{query_value}
use Rattle.group_wire.specs.Times.{query_version}
use Rattle.examples.specs.Membership.{older_querier_millis}
use Rattle.examples.proofs.Reporters.{time_in}
use Rattle.examples.proofs.reporter.Reporter.hear.Goals as goal

pub returns-in-OlderQuery : goal.returns-in-OlderQuery
returns-in-OlderQuery g c =
    let version : c.version.result ≡ query_version g.A.Address.family c.in-OlderQuery.max_resp_code =
    rw c.in-OlderQuery.is at c.version.ensures in
    let delay = rw c.in-OlderQuery.is at c.delay_in-delay.ensures in
    rw c.in-OlderQuery.is (rw (c.none.ensures, delay, c.hear_older.ensures, version) at c.hear_query.ensures)

pub returns-in-Query : goal.returns-in-Query
returns-in-Query g c =
    let delay = rw c.in-Query.is at c.delay_in-delay.ensures in
    let older = time_in c.older_querier_time.result
    (older_querier_millis g.A.Address.family (query_value g.A.Address.bytes c.in-Query.query))
    (rw c.in-Query.is at c.older_querier_time.ensures) in
    rw c.in-Query.is (rw (delay, c.hear_time.ensures, older) at c.hear_query-in-Query.ensures)
