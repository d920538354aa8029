-- The row of the packet's kind is changed.
use Rattle.std.proofs.Common.{arith}
use Rattle.dump_captures.specs.Tally.{tally_of}
use Rattle.dump_captures.proofs.Tallies.{counted-listed, counted-refused}
use Rattle.dump_captures.proofs.tally.Tally.count.Goals as goal

pub returns-in-Listed : goal.returns-in-Listed
returns-in-Listed c =
    counted-listed (tally_of c.args.self.now) c.args.counted c.in-Listed.kind c.args.link_type c.args.octets
    c.saturating_add-self.result c.saturating_add-self-2.result c.place-place.result c.with_listed.result _
    c.in-Listed.is c.saturating_add-self.ensures c.saturating_add-self-2.ensures c.place-place.ensures.value
    (omega arith) c.with_listed.ensures

pub returns-in-Refused : goal.returns-in-Refused
returns-in-Refused c =
    counted-refused (tally_of c.args.self.now) c.args.counted c.in-Refused.kind c.in-Refused.reason c.args.link_type
    c.args.octets c.saturating_add-self.result c.saturating_add-self-2.result c.place-place-in-Refused.result
    c.with_refused.result _ c.in-Refused.is c.saturating_add-self.ensures c.saturating_add-self-2.ensures
    c.place-place-in-Refused.ensures.value (omega arith) c.with_refused.ensures
