-- The groups so far, each with a colon after it.
use Rattle.wirebase.proofs.Words.{◌≡◌, ◌+◌, ◌*◌, ◌≤◌, ◌++◌, length, take}
use Rattle.std.specs.List.{flat_map}
use Rattle.wirebase.proofs.Rooms.{colon_text}
use Rattle.wirebase.proofs.text.groups.put_groups.Given as goal

abbrev pub invariant-loop-group : goal.invariant-loop-group
invariant-loop-group l = record {
  whole : length l.room ≡ 64;
  text : take l.end l.room ≡ take l.at l.initial.room ++ flat_map colon_text (take l.group-index l.groups);
  least : l.at + l.group-index ≤ l.end;
  bound : l.end ≤ l.at + 5 * l.group-index;
}
