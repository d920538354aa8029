-- What private functions and models need; no public clause rests on it.
use Rattle.std.specs.Prelude.{◌≡◌, ℕ, List}
use Rattle.std.specs.Str.{str_to_ascii_lowercase}
use Rattle.control_wire.specs.DnsNameWalk.{Answer, label}
use Rattle.examples.specs.Resolver.{TurnValue, found, sought}
use Rattle.examples.specs.declared.resolver.Turn.{Turn}
use Rattle.examples.specs.declared.resolver.Turn.TheVariants.{Found, Sought}

-- a walk gave a label that is this one, letters in either case
abbrev pub GivesLabel : Answer → List ℕ → Type 0
GivesLabel answer bytes =
    (given : List ℕ) × (answer ≡ label given) × (str_to_ascii_lowercase given ≡ str_to_ascii_lowercase bytes)

abbrev pub turn_of : Turn → TurnValue
turn_of (Found one) = found one
turn_of (Sought name) = sought name.now
