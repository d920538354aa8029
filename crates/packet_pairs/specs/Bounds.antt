-- How much is kept.
use Rattle.std.specs.Prelude.{◌≤◌, length}
use Rattle.packet_pairs.specs.Pairs.{State, most_answered, most_waiting}

-- At most `MOST_WAITING` questions without an answer, and at most `MOST_ANSWERED` with one. Each has a fixed size.
pub record IsWithinBounds (s : State) : Type 0 where
  pub waiting : length s.waiting ≤ most_waiting
  pub answered : length s.answered ≤ most_answered
