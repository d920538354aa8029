-- The record's packet follows its header.
use Rattle.std.proofs.Common.{arith}
use Rattle.capture.proofs.Records.{record_ends, record_read}
use Rattle.capture.proofs.capture.Capture.read_record.Goals as goal

pub returns-in-Passed-clause-gives : goal.returns-in-Passed-clause-gives
returns-in-Passed-clause-gives g c all none =
    (rw c.in-Passed.is at c.in_ok-record.ensures.reads all 0 (omega arith) (rw (← c.requires) at none)).1 tt

pub returns-in-Read-clause-gives : goal.returns-in-Read-clause-gives
returns-in-Read-clause-gives g c all none =
    record_read _ all _ _ c.in-Read.head c.packet.result
    (rw c.in-Read.is at c.in_ok-record.ensures.reads all 0 (omega arith) (rw (← c.requires) at none))
    c.packet.ensures.place c.packet.ensures.captured_len c.packet.ensures.original_len c.packet.ensures.link_type
    c.packet.ensures.time

pub returns-in-Ended-clause-gives : goal.returns-in-Ended-clause-gives
returns-in-Ended-clause-gives g c all none =
    record_ends _ all _
    (rw c.in-Ended.is at c.in_ok-record.ensures.reads all 0 (omega arith) (rw (← c.requires) at none))
