-- Options tell one resolution and one offset.
use Rattle.std.proofs.lemmas.Int.{to_z-of_z}
use Rattle.std.specs.Int.{w64}
use Rattle.capture.proofs.Blocks.{is_interface, one_interface}
use Rattle.capture.proofs.pcapng.Interface.parse.Goals as goal

pub returns-clause-sound : goal.returns-clause-sound
returns-clause-sound c =
    is_interface c.args.order c.args.block.now c.range-options.result.now _ _ _ _ c.offset.result c.if-len.false
    c.u16_at.ensures c.u32_at.ensures c.range-options.ensures.value c.resolution.ensures c.offset.ensures
    (to_z-of_z w64 c.offset.result (record { sfits = c.offset.type_inv }))

pub returns-clause-complete : goal.returns-clause-complete
returns-clause-complete c i is =
    one_interface c.args.order c.args.block.now _ i (returns-clause-sound c) is
