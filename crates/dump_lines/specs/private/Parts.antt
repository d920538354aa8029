-- What private functions and models need; no public clause rests on it.
use Rattle.std.specs.Io.KnownBytes.{Consumes, IsAtEnd}
use Rattle.std.specs.Prelude.{◌≡◌, ◌≢◌, ℕ, Bool, List, [], Option, None, Some, ◌⊎◌, true, false, ◌∷◌, ◌++◌, All, OnSome}
use Rattle.std.specs.Prelude.{length, ◌+◌, ◌%◌, ◌==◌, ◌&&◌, nat_le}
use Rattle.packet_fields.specs.Output.{Gains, GainsSome}
use Rattle.dump_lines.specs.BufferedLines.{IsFirst}
use Rattle.dump_lines.specs.Listing.{Shape, LinePrints, is_known}
use Rattle.dump_lines.specs.PartialLines.{shape_from}
use Rattle.dump_lines.specs.declared.partial_line.Line.{Line}

-- the first line is taken, and what it prints is gained; or there was none, and nothing is
abbrev pub ShowsFirst : List ℕ → Option (List ℕ) → Option (List ℕ) → Option (List ℕ) → Option Bool → Type 0
ShowsFirst octets left before now (Some known) =
    (shape : Shape) × IsFirst octets left shape × (known ≡ is_known shape) × GainsSome before now (LinePrints shape)
ShowsFirst octets left before now None = (octets ≡ []) × Gains before now []

-- octets were read: whatever follows, the shape is what it was
pub record Takes (old new : Line) (octets : List ℕ) : Type 0 where
  pub shape : (rest : List ℕ) → shape_from old (octets ++ rest) ≡ shape_from new rest

-- a part of a line was taken off what a reader had left: octets of the line, and after them its LF where it has ended,
-- or nothing where nothing is left
pub record TakesPart (old new : Option (List ℕ)) (before behind : Line) (count : ℕ) (ended : Bool) : Type 0 where
  pub text : List ℕ
  pub last : List ℕ
  pub takes : Takes before behind text
  pub free : All (λ octet. octet ≢ 10) text
  pub consumed : Consumes old new (text ++ last)
  pub counted : count ≡ length (text ++ last)
  pub goes_on : ended ≡ false → last ≡ []
  pub ends : ended ≡ true → (last ≡ 10 ∷ []) ⊎ ((text ++ last ≡ []) × OnSome old (IsAtEnd new))

-- the numbers of digits that a word may have: even ones, 2 to 131,070
abbrev pub is_length : ℕ → Bool
is_length n = (n % 2 == 0) && nat_le 2 n && nat_le n 131070
