-- Each turn prints the number of a tag.
use Rattle.std.proofs.Common.{◌++◌, arith}
use Rattle.packet_fields.proofs.Printing.{◌then◌}
use Rattle.dump_captures.specs.private.Vlans.{one_of}
use Rattle.dump_captures.proofs.Vlans.{all_numbers, one_vlan}
use Rattle.dump_captures.proofs.members.put_numbers.Goals as goal

pub loop-left-preserved : goal.loop-left-preserved
loop-left-preserved g c =
    let so_far = c.loop-left.invariant in (
      so_far.0 ++ one_of c.loop-left.is_first c.split_at.result.0.now,
      rw (← c.split_at.ensures.front, ← c.split_at.ensures.back) at
          (one_vlan c.loop-left.is_first so_far.0 c.loop-left.left.now _ (omega arith) so_far.1),
      so_far.2 then c.in_ok-put_number_of.ensures,
    )

pub returns : goal.returns
returns g c =
    let so_far = c.loop-left.invariant in
    all_numbers _ _ _ _ _ c.loop-left.left.now (omega (arith, c.loop-left-test.false)) so_far.1 so_far.2
