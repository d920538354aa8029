-- The text printed so far, and the text that the flags still to come print after it.
use Rattle.dns_wire.proofs.Words.{◌≡◌, [], ◌++◌, List, ℕ, codes, length, map, names_set}
use denote.Text.{Utf8}
use denote.Shadow.{shadow}
use Rattle.std.specs.Fmt.{HasWritten, IsPlainFormatter}
use Rattle.dns_wire.proofs.dns.display.fmt_flags.Given as goal

abbrev pub invariant-loop-left : goal.invariant-loop-left
invariant-loop-left g l =
    shadow (Utf8 l.front) × shadow (Utf8 l.none) × (IsPlainFormatter l.fn.f → (done : List ℕ)
    × (done ++ names_set l.front l.none (map (λ row. (row.0.now, row.1)) l.left) l.bits
    ≡ names_set [] (codes "-") (map (λ row. (row.0.now, row.1)) l.names) l.bits)
    × HasWritten g.W.Write.write_str_gives l.fn.f done l.f)

abbrev pub decreases-loop-left : goal.decreases-loop-left
decreases-loop-left g l = length l.left
