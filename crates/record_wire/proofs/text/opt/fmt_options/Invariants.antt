-- What is written so far, and the texts of the answers that are left.
use Rattle.record_wire.proofs.Words.{◌≡◌, ◌++◌, HasWritten, IsPlainFormatter, List, ℕ, length, options_text}
use Rattle.record_wire.proofs.text.opt.fmt_options.Given as goal

abbrev pub invariant-loop-answer : goal.invariant-loop-answer
invariant-loop-answer g l =
    IsPlainFormatter l.fn.f
    → (done : List ℕ) × (done ++ options_text l.options ≡ options_text l.fn.options)
    × HasWritten g.W.Write.write_str_gives l.fn.f done l.f

abbrev pub decreases-loop-answer : goal.decreases-loop-answer
decreases-loop-answer g l = length l.options
