-- A list of options (RFC 2132, RFC 4861 section 4.6) where, as in smoltcp, a field is taken from the last option that
-- gives it.
use Rattle.std.specs.Prelude.{List, [], ◌∷◌, Option, None}
use Rattle.std.specs.Option.{option_or}

-- what the last option gives that gives anything
abbrev pub last_of : {O A : Type 0} → (O → Option A) → List O → Option A
last_of says [] = None
last_of says (o ∷ os) = option_or (last_of says os) (says o)
