-- How much is kept.
use Rattle.std.specs.Prelude.{◌≤◌, [], ◌∷◌, List, length, ℕ}
use Rattle.packet_stats.specs.Row.{RowValue, most_times}
use Rattle.packet_stats.specs.Stats.{State, most_rows, most_servers}
use Rattle.packet_stats.specs.Table.{TableValue}

-- each row has at most `MOST_TIMES` times
abbrev pub HaveFewTimes : List RowValue → Type 0
HaveFewTimes [] = Unit {0}
HaveFewTimes (r ∷ rs) = (length r.times ≤ most_times) × HaveFewTimes rs

-- a table has at most so many rows; but for the times each has a fixed size
pub record IsWithin (most : ℕ) (t : TableValue) : Type 0 where
  pub rows : length t.rows ≤ most
  pub times : HaveFewTimes t.rows

pub record IsWithinBounds (s : State) : Type 0 where
  pub questions : IsWithin most_rows s.questions
  pub rcodes : IsWithin most_rows s.rcodes
  pub servers : IsWithin most_servers s.servers
  pub clients : IsWithin most_rows s.clients
  pub leases : IsWithin most_rows s.leases
  pub members : IsWithin most_rows s.members
  pub sources : IsWithin most_rows s.sources
  pub neighbors : IsWithin most_rows s.neighbors
  pub routers : IsWithin most_rows s.routers
  pub prefixes : IsWithin most_rows s.prefixes
