-- What a control packet prints and answers.
use Rattle.std.specs.Prelude.{List, Option, ℕ}
use Rattle.packet_pairs.specs.declared.pairs.Answered.{Answered}
use Rattle.dump_captures.specs.Arrival.{ArrivalValue}
use Rattle.dump_captures.specs.Brief.{BriefPrints}
use Rattle.dump_captures.specs.Dump.{ControlPrints, LengthyPrints}
use Rattle.dump_captures.specs.Session.{IsSeen, SessionValue}
use Rattle.dump_captures.specs.Sight.{HeadersValue}
use Rattle.dump_captures.specs.declared.kind.Reason.{Reason}
use Rattle.dump_captures.specs.declared.options.Options.{Options}

-- in a form that `Prints` tells
abbrev pub IsShownBy : (Options → ArrivalValue → HeadersValue → Option Reason → Option Answered → List ℕ → Type 0)
    → Options → ArrivalValue → HeadersValue → SessionValue → Option Reason → SessionValue
    → List ℕ → Type 0
IsShownBy Prints options a h old why new shown =
    (answer : Option Answered) × IsSeen options a h why old answer new × Prints options a h why answer shown

abbrev pub IsShown : Options → ArrivalValue → HeadersValue → SessionValue → Option Reason → SessionValue
    → List ℕ → Type 0
IsShown = IsShownBy ControlPrints

abbrev pub IsShownAtLength : Options → ArrivalValue → HeadersValue → SessionValue → Option Reason → SessionValue
    → List ℕ → Type 0
IsShownAtLength = IsShownBy LengthyPrints

abbrev pub IsShownInBrief : Options → ArrivalValue → HeadersValue → SessionValue → Option Reason → SessionValue
    → List ℕ → Type 0
IsShownInBrief = IsShownBy BriefPrints
