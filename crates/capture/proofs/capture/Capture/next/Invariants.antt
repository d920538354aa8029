-- Headers and blocks without a packet were passed.
use Rattle.std.proofs.Common.{◌≡◌, IfSome}
use Rattle.capture.specs.Capture.{state_of, count_of}
use Rattle.capture.proofs.Units.{SoFar}
use Rattle.capture.proofs.capture.Capture.next.Given as goal

abbrev pub invariant-steps : goal.invariant-steps
invariant-steps g l = record {
  so_far : IfSome (g.R.Read.remaining l.initial.input)
      (λ all. SoFar (state_of l.initial.self) (state_of l.self) all (g.R.Read.remaining l.input));
  count : count_of l.self ≡ count_of l.initial.self;
}
