use Rattle.std.proofs.Common.{◌≡◌, ◌*◌, ◌≤◌, drop, length, map}
use Rattle.std.specs.List.{AllByRecursion}
use Rattle.wirebase.specs.ByteWriter.{sheet, free, put_all, the_slice}
use Rattle.extension_wire.specs.Mpls.{Fits, text}
use Rattle.extension_wire.proofs.mpls.put_entries.Given as goal

-- writing the rest gives the result of writing the whole
abbrev pub invariant-loop-entry : goal.invariant-loop-entry
invariant-loop-entry l = record {
  texts : put_all (sheet l.w) (map text (drop l.entry-index l.entries))
      ≡ put_all (sheet l.initial.w) (map text l.entries);
  room : 4 * length (drop l.entry-index l.entries) ≤ length (free l.w);
  fits : AllByRecursion Fits (drop l.entry-index l.entries);
  same_slice : the_slice l.w ≡ the_slice l.initial.w;
}
