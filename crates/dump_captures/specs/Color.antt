-- Colors, by the control sequences of ECMA-48 section 8.3.117 (SGR).
use Rattle.std.specs.Prelude.{◌∷◌, ◌++◌, ◌&&◌, Bool, List, Option, codes, false, is_some, true, ℕ}
use Rattle.dump_captures.specs.declared.kind.Reason.{Reason}
use Rattle.dump_captures.specs.declared.options.Color.{Color}
use Rattle.dump_captures.specs.declared.options.Color.TheVariants.{Always}
use Rattle.dump_captures.specs.declared.options.Options.{Options}

-- what begins bold text, what begins red text, and what ends either; 27 is escape
abbrev pub bold : List ℕ
bold = 27 ∷ codes "[1m"

abbrev pub red : List ℕ
red = 27 ∷ codes "[31m"

abbrev pub plain : List ℕ
plain = 27 ∷ codes "[0m"

abbrev pub is_always : Color → Bool
is_always Always = true
is_always _ = false

abbrev pub is_colored : Options → Bool
is_colored options = is_always options.color

-- a text between two sequences, where it is colored
abbrev pub before_text : Bool → List ℕ → List ℕ
before_text true begin = begin
before_text false begin = codes ""

abbrev pub behind_text : Bool → List ℕ
behind_text true = plain
behind_text false = codes ""

abbrev pub painted : Bool → List ℕ → List ℕ → List ℕ
painted is_painted begin text = before_text is_painted begin ++ text ++ behind_text is_painted

-- a line of a packet that is refused or read in part is red
abbrev pub is_red : Options → Option Reason → Bool
is_red options why = is_colored options && is_some why
