use Rattle.std.proofs.Common.{◌≤◌, ◌*◌, arith}
use Rattle.std.proofs.lemmas.Nat.{mul-le}
use Rattle.examples.proofs.Memberships.{response_most, interval-most}
use Rattle.examples.proofs.membership.older_querier_time.Goals as goal

pub overflow_mul-intervals-in-Query : goal.overflow_mul-intervals-in-Query
overflow_mul-intervals-in-Query g c =
    let robustness = c.if-query-eq0.robustness in
    let most = interval-most c.in-Query.query.qqic in
    let bound : robustness * c.secs.result ≤ 255 * 31744 =
    mul-le robustness c.secs.result 255 31744 (omega (arith, c.type_inv.robustness.fits))
    (omega (arith, most, c.secs.ensures, c.interval.ensures)) in
    omega (arith, bound)

pub overflow_add-intervals : goal.overflow_add-intervals
overflow_add-intervals g c =
    let robustness = c.if-query-eq0.robustness in
    let most = interval-most c.in-Query.query.qqic in
    let bound : robustness * c.secs.result ≤ 255 * 31744 =
    mul-le robustness c.secs.result 255 31744 (omega (arith, c.type_inv.robustness.fits))
    (omega (arith, most, c.secs.ensures, c.interval.ensures)) in
    let response = response_most g.A.Address.family c.in-Query.query.max_resp_code c.in_ok-response.response.micros
    (rw c.in-Query.is at c.in_ok-response.ensures) in
    omega (arith, bound, response, c.total_micros.ensures)
