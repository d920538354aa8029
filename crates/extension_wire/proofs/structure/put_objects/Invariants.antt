use Rattle.std.proofs.Common.{◌≡◌, ◌≤◌, ◌<◌, ◌^◌, drop, length, map}
use Rattle.wirebase.specs.ByteWriter.{sheet, free, put_all, the_slice}
use Rattle.extension_wire.specs.Object.{value_of, text}
use Rattle.extension_wire.specs.Writer.{objects_len}
use Rattle.extension_wire.proofs.structure.put_objects.Given as goal

-- writing the rest gives the result of writing the whole
abbrev pub invariant-loop-object : goal.invariant-loop-object
invariant-loop-object l = record {
  texts : put_all (sheet l.w) (map text (map value_of (drop l.object-index l.objects)))
      ≡ put_all (sheet l.initial.w) (map text (map value_of l.objects));
  room : objects_len (map value_of (drop l.object-index l.objects)) ≤ length (free l.w);
  fits : objects_len (map value_of (drop l.object-index l.objects)) < 2 ^ 16;
  same_slice : the_slice l.w ≡ the_slice l.initial.w;
}
