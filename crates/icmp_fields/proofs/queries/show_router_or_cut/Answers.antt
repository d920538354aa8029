-- One that is cut, by its octets.
use Rattle.std.proofs.Common.{◌≡◌, length, nat_lt, rules, true}
use Rattle.icmp_fields.proofs.queries.show_router_or_cut.Goals as goal

pub returns-then-entry-width : goal.returns-then-entry-width
returns-then-entry-width g c =
    let short : nat_lt (length c.args.entry.now) c.args.width ≡ true = search rules in
    rw short c.show_cut_entry.ensures
