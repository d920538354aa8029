-- What is put into an output.
use Rattle.std.specs.Prelude.{List, OnOk, Result, ℕ}
use Rattle.std.specs.Fmt.{HasWritten, IsPlainFormatter, WritesInCalls}
use Rattle.std.specs.declared.fmt.Formatter.{Formatter}

-- a text was put, in calls that each did what `took` says, where none failed
pub record PutsText {O E : Type 0} (took : O → List ℕ → O → Type 0) (before : O) (text : List ℕ)
    (result : Result (Unit {0}) E) (after : O) : Type 0 where
  pub calls : OnOk result (WritesInCalls took before text after)

-- what a call does to a formatter: one that is as that of `{}` wrote the text
unfoldable pub Formats : {W : Type 0} → (W → List ℕ → W → Type 0) → Formatter W → List ℕ → Formatter W → Type 0
Formats took f text g = IsPlainFormatter f → HasWritten took f text g
