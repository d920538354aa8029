-- The version, and the records.
use Rattle.neighbor_fields.proofs.Told.{told_last}
use Rattle.neighbor_fields.proofs.igmp.show_report.Goals as goal

pub returns-clause-prints : goal.returns-clause-prints
returns-clause-prints g c =
    let records = rw (c.u16_at-count.ensures, c.split_at.ensures.back) at c.show_records_v4.ensures.prints in
    told_last _ _ _ c.in_ok-field.ensures records

pub returns-clause-lack : goal.returns-clause-lack
returns-clause-lack g c = rw (c.u16_at-count.ensures, c.split_at.ensures.back) at c.show_records_v4.ensures.lack
