-- The start is there, or what is known of it, or nothing.
use Rattle.std.proofs.Common.{◌∙◌, sym}
use Rattle.dump_captures.specs.Sight.IsRefused4.{by_front, by_head, by_none}
use Rattle.dump_captures.proofs.refused.refused_v4.Goals as goal

pub returns-in-Ok : goal.returns-in-Ok
returns-in-Ok c = by_front _ c.is_header_bad.result c.in-Ok.ensures.sound c.is_header_bad.ensures c.told_front.ensures

pub returns-in-Some : goal.returns-in-Some
returns-in-Some c =
    by_head c.in-Err.other c.in-Some.head c.in-Err.ensures.refuses (sym c.head_of.ensures ∙ c.in-Some.is)
    (rw c.ports_behind-ports.ensures at c.told.ensures)

pub returns-in-None : goal.returns-in-None
returns-in-None c =
    by_none c.in-Err.other c.in-Err.ensures.refuses (sym c.head_of.ensures ∙ c.in-None.is) c.untold.ensures
