-- What is counted of all messages.
use Rattle.std.specs.Prelude.{◌≡◌, [], ◌∷◌, ◌++◌, List, ℕ}
use Rattle.packet_stats.specs.Row.{MentionValue}
use Rattle.packet_stats.specs.Subject.{SubjectValue, client, lease, member, neighbor, outcome, prefix, question, router}
use Rattle.packet_stats.specs.Subject.{server, source}
use Rattle.packet_stats.specs.Table.{Counts, Sorts, TableValue, table_of}
use Rattle.packet_stats.specs.declared.stats.Stats.{Stats}

-- a table for each kind of subjects
pub record State : Type 0 where
  pub questions : TableValue
  pub rcodes : TableValue
  pub servers : TableValue
  pub clients : TableValue
  pub leases : TableValue
  pub members : TableValue
  pub sources : TableValue
  pub neighbors : TableValue
  pub routers : TableValue
  pub prefixes : TableValue

abbrev pub state_of : Stats → State
state_of s = record {
  questions = table_of s.questions;
  rcodes = table_of s.rcodes;
  servers = table_of s.servers;
  clients = table_of s.clients;
  leases = table_of s.leases;
  members = table_of s.members;
  sources = table_of s.sources;
  neighbors = table_of s.neighbors;
  routers = table_of s.routers;
  prefixes = table_of s.prefixes;
}

-- the table in which nothing is counted
abbrev pub nothing : TableValue
nothing = record { rows = []; overlooked = 0 }

-- no message was counted yet
abbrev pub no_messages : State
no_messages = record {
  questions = nothing;
  rcodes = nothing;
  servers = nothing;
  clients = nothing;
  leases = nothing;
  members = nothing;
  sources = nothing;
  neighbors = nothing;
  routers = nothing;
  prefixes = nothing;
}

-- the most rows of a table, and of that of servers
abbrev pub most_rows : ℕ
most_rows = 1024

abbrev pub most_servers : ℕ
most_servers = 256

-- ---- counting

-- a message is counted in the table of its kind, and the others stay
abbrev pub CountsIn : SubjectValue → State → MentionValue → State → Type 0
CountsIn (question labels kind) old m new =
    Counts most_rows old.questions m new.questions × (new ≡ record old { questions = new.questions })
CountsIn (outcome n) old m new =
    Counts most_rows old.rcodes m new.rcodes × (new ≡ record old { rcodes = new.rcodes })
CountsIn (server address) old m new =
    Counts most_servers old.servers m new.servers × (new ≡ record old { servers = new.servers })
CountsIn (client hardware) old m new =
    Counts most_rows old.clients m new.clients × (new ≡ record old { clients = new.clients })
CountsIn (lease address hardware time) old m new =
    Counts most_rows old.leases m new.leases × (new ≡ record old { leases = new.leases })
CountsIn (member group host) old m new =
    Counts most_rows old.members m new.members × (new ≡ record old { members = new.members })
CountsIn (source group host mode address) old m new =
    Counts most_rows old.sources m new.sources × (new ≡ record old { sources = new.sources })
CountsIn (neighbor address link) old m new =
    Counts most_rows old.neighbors m new.neighbors × (new ≡ record old { neighbors = new.neighbors })
CountsIn (router address) old m new =
    Counts most_rows old.routers m new.routers × (new ≡ record old { routers = new.routers })
CountsIn (prefix address len sender) old m new =
    Counts most_rows old.prefixes m new.prefixes × (new ≡ record old { prefixes = new.prefixes })

abbrev pub CountsOne : State → MentionValue → State → Type 0
CountsOne old m new = CountsIn m.subject old m new

-- what messages say is counted in turn
abbrev pub CountsAll : State → List MentionValue → State → Type 0
CountsAll old [] new = new ≡ old
CountsAll old (m ∷ ms) new = (next : State) × CountsOne old m next × CountsAll next ms new

-- only the first of it is counted
pub record CountsSome (old : State) (ms : List MentionValue) (new : State) : Type 0 where
  pub done : List MentionValue
  pub m : MentionValue
  pub left : List MentionValue
  pub parts : ms ≡ done ++ (m ∷ left)
  pub counted : CountsAll old done new

-- What a message says is counted. Where there is no memory, the first of it is counted.
abbrev pub CountsThat : (List MentionValue → Type 0) → State → State → Type 0
CountsThat Says old new = (ms : List MentionValue) × Says ms × CountsAll old ms new

abbrev pub CountsPart : (List MentionValue → Type 0) → State → State → Type 0
CountsPart Says old new = (ms : List MentionValue) → Says ms → CountsSome old ms new

-- ---- order

-- each table has the same rows in the order of a page
pub record SortsAll (old new : State) : Type 0 where
  pub questions : Sorts old.questions new.questions
  pub rcodes : Sorts old.rcodes new.rcodes
  pub servers : Sorts old.servers new.servers
  pub clients : Sorts old.clients new.clients
  pub leases : Sorts old.leases new.leases
  pub members : Sorts old.members new.members
  pub sources : Sorts old.sources new.sources
  pub neighbors : Sorts old.neighbors new.neighbors
  pub routers : Sorts old.routers new.routers
  pub prefixes : Sorts old.prefixes new.prefixes
