-- The parts of the options of a packet (RFC 2131 section 4.1, RFC 3396).
use Rattle.std.specs.Prelude.{◌≡◌, ◌==◌, ◌||◌, ◌++◌, [], ◌∷◌, Bool, Err, List, None, Ok, Option, Result, Some, false}
use Rattle.std.specs.Prelude.{map, not, ℕ}
use Rattle.dhcp_options.specs.Words.{Area, Ends, OptionValue, Options, Overload, Refusal}
use Rattle.dhcp_options.specs.Areas.{AreaBytes, areas}
use Rattle.dhcp_options.specs.Overload.{IsOverload}
use Rattle.dhcp_options.specs.declared.parts.Part.{Part}

-- ---- what an area gives

-- an option in its area
pub record PlacedValue : Type 0 where
  pub area : Area
  pub option : OptionValue

abbrev pub placed : Area → OptionValue → PlacedValue
placed area option = record { area = area; option = option }

abbrev pub PlacedAnswer : Type 0
PlacedAnswer = Result PlacedValue Refusal

-- the refusal of an option of this kind that is cut, where one is
abbrev pub refusal_in : Area → Option ℕ → List PlacedAnswer
refusal_in area None = []
refusal_in area (Some kind) = Err (record { area = area; kind = kind }) ∷ []

-- The options of an area in order, which are found as those of the options field are, and behind them one refusal where
-- the area ends within an option.
pub record Gives (area : AreaBytes) (answers : List PlacedAnswer) : Type 0 where
  pub options : List OptionValue
  pub cut : Option ℕ
  pub listed : Options area.bytes options
  pub ends : Ends area.bytes cut
  pub whole : answers ≡ map (λ option. Ok (placed area.area option)) options ++ refusal_in area.area cut

-- what areas give, one after another
abbrev pub GiveAll : List AreaBytes → List PlacedAnswer → Type 0
GiveAll [] answers = answers ≡ []
GiveAll (area ∷ more) answers =
    (front rest : List PlacedAnswer) × Gives area front × GiveAll more rest × (answers ≡ front ++ rest)

-- ---- parts

-- a part by its content
pub record PartValue : Type 0 where
  pub area : Area
  pub kind : ℕ
  pub octets : List ℕ
  pub is_first : Bool

abbrev pub value_of : Part → PartValue
value_of part = record { area = part.area; kind = part.kind; octets = part.octets.now; is_first = part.is_first }

abbrev pub part_of : PlacedValue → Bool → PartValue
part_of p is_first =
    record { area = p.area; kind = p.option.kind; octets = p.option.body; is_first = is_first }

-- an answer: a part, or the refusal of an option that is cut
abbrev pub Answer : Type 0
Answer = Result PartValue Refusal

abbrev pub is_among : ℕ → List ℕ → Bool
is_among kind [] = false
is_among kind (k ∷ more) = (kind == k) || is_among kind more

-- Options as parts, after parts of these kinds: a part is the first of its kind where no part before it has that kind.
abbrev pub parts : List ℕ → List PlacedAnswer → List Answer
parts before [] = []
parts before (Ok p ∷ more) = Ok (part_of p (not (is_among p.option.kind before))) ∷ parts (p.option.kind ∷ before) more
parts before (Err refusal ∷ more) = Err refusal ∷ parts before more

-- the answers for a packet: the parts in its areas, in the order of the areas
pub record ArePartsOf (bytes : List ℕ) (answers : List Answer) : Type 0 where
  pub overload : Option Overload
  pub given : List PlacedAnswer
  pub overloads : IsOverload bytes overload
  pub gives : GiveAll (areas overload bytes) given
  pub whole : answers ≡ parts [] given
