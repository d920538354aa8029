-- How far the run has come.
use Rattle.std.specs.Option.{option_map}
use Rattle.std.specs.Io.Buffered.{reader_remaining}
use Rattle.capture.specs.Capture.{state_of, count_of}
use Rattle.dump_captures.specs.Progress.{progress_of}
use Rattle.dump_captures.specs.Tally.{tally_of}
use Rattle.dump_captures.specs.private.Kept.{kept_of}
use Rattle.dump_captures.proofs.Running.{SoFar}
use Rattle.dump_captures.proofs.packets.show_packets.Given as goal

abbrev pub invariant-packets : goal.invariant-packets
invariant-packets g l =
    SoFar l.options (option_map (λ name. name.now) l.file) (reader_remaining g.R.Read.remaining l.initial.input)
    (reader_remaining g.R.Read.remaining l.input) (state_of l.capture) (count_of l.capture)
    (progress_of l.progress) (kept_of l.kept) (tally_of l.initial.tally) (tally_of l.tally)
    (g.W.Write.contents l.initial.output)
    (g.W.Write.contents l.output)
