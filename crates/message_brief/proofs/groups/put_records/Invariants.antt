-- What is put so far, and what the records that are left say.
use Rattle.std.proofs.Common.{◌≡◌, ◌++◌, List, ℕ}
use Rattle.std.specs.Fmt.{WritesInCalls}
use Rattle.std.specs.Prelude.{flat_map}
use Rattle.packet_fields.specs.Parts.{parts}
use Rattle.neighbor_fields.specs.Records.{record_len}
use Rattle.message_brief.specs.Groups.{record_text}
use Rattle.message_brief.proofs.groups.put_records.Given as goal

abbrev pub invariant-loop-more : goal.invariant-loop-more
invariant-loop-more g l =
    (done : List ℕ)
    × (done ++ flat_map (record_text l.width) (parts (record_len l.width) l.more l.left)
    ≡ flat_map (record_text l.width) (parts (record_len l.width) l.count l.octets))
    × WritesInCalls g.S.Sink.took l.initial.output done l.output

abbrev pub decreases-loop-more : goal.decreases-loop-more
decreases-loop-more g l = l.more
