-- Text that is put by the piece: what an output has taken, and the octets that wait in a piece.
use Rattle.std.specs.Prelude.{◌≡◌, ◌++◌, IfOk, List, Result, ℕ, take}
use Rattle.std.specs.Fmt.{WritesInCalls}
use Rattle.std.specs.Str.{IsAscii}

-- An output and a piece took a text: the octets that waited and the text are what was put and the octets that now wait.
pub record Takes {O : Type 0} (took : O → List ℕ → O → Type 0) (old : O) (waited text : List ℕ) (new : O)
    (waits : List ℕ) : Type 0 where
  pub written : List ℕ
  pub has : WritesInCalls took old written new
  pub whole : waited ++ text ≡ written ++ waits
  pub ascii : IsAscii waits

-- where no call failed: the number of octets that wait in the piece then
abbrev pub TakesOnOk : {O E : Type 0} → (O → List ℕ → O → Type 0) → O → List ℕ → Result ℕ E → List ℕ → O → List ℕ
    → Type 0
TakesOnOk took old waited result text new piece = IfOk result (λ len. Takes took old waited text new (take len piece))
