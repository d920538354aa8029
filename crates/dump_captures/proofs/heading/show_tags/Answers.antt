-- Each turn prints a tag.
use Rattle.std.proofs.Common.{◌++◌, arith}
use Rattle.packet_fields.proofs.Printing.{◌then◌}
use Rattle.dump_captures.specs.Heading.{tag_text}
use Rattle.dump_captures.proofs.Headings.{one_tag}
use Rattle.dump_captures.proofs.heading.show_tags.Goals as goal

pub loop-left-preserved : goal.loop-left-preserved
loop-left-preserved g c =
    let so_far = c.loop-left.invariant in (
      so_far.0 ++ tag_text c.split_at.result.0.now,
      rw (← c.split_at.ensures.front, ← c.split_at.ensures.back) at
          (one_tag so_far.0 c.loop-left.left.now _ (omega arith) so_far.1),
      so_far.2 then c.in_ok-show_tag.ensures,
    )
