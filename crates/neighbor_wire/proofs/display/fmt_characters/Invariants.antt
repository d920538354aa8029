use Rattle.std.specs.Prelude.{flat_map, take}
use Rattle.std.specs.Fmt.{HasWritten, IsPlainFormatter}
use Rattle.neighbor_wire.specs.Display.{character}
use Rattle.neighbor_wire.proofs.display.fmt_characters.Given as goal

-- the characters so far are printed
abbrev pub invariant-loop-byte : goal.invariant-loop-byte
invariant-loop-byte g l =
    IsPlainFormatter l.fn.f → HasWritten g.W.Write.write_str_gives l.fn.f
    (flat_map character (take l.byte-index l.octets)) l.f
