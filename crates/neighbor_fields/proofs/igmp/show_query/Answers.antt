-- The front, what it says of its querier, and the sources.
use Rattle.packet_fields.proofs.Fields.{◌and◌}
use Rattle.neighbor_fields.proofs.Told.{told_last}
use Rattle.neighbor_fields.proofs.igmp.show_query.Goals as goal

pub returns-clause-prints : goal.returns-clause-prints
returns-clause-prints g c =
    let front = rw c.code_number.ensures.value at c.in_ok-show_query_front.ensures in
    let querier = rw (c.u8_at.ensures, c.u8_at-2.ensures) at c.in_ok-show_querier.ensures in
    let sources = rw (c.u16_at-count.ensures, c.split_at.ensures.back) at c.show_sources.ensures.prints in
    told_last _ _ _ (front and querier) sources

pub returns-clause-lack : goal.returns-clause-lack
returns-clause-lack g c = rw (c.u16_at-count.ensures, c.split_at.ensures.back) at c.show_sources.ensures.lack
