use Rattle.std.proofs.Common.{◌≡◌, ◌+◌, drop, map}
use Rattle.extension_wire.specs.Object.{value_of}
use Rattle.extension_wire.specs.Writer.{objects_len}
use Rattle.extension_wire.proofs.structure.buffer_len.Given as goal

abbrev pub invariant-loop-object : goal.invariant-loop-object
invariant-loop-object l =
    l.len + objects_len (map value_of (drop l.object-index l.objects)) ≡ 4 + objects_len (map value_of l.objects)
