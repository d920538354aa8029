-- Reading from an input.
use Rattle.std.specs.Prelude.{◌≡◌, ℕ, Bool, true, false, ◌<◌, ◌≤◌, List, ◌++◌, length, take, drop, Option, Some, OnSome}
use Rattle.std.specs.Prelude.{IfSome, Result, IfOk}
use Rattle.std.specs.Io.KnownBytes.{Consumes, Keeps, IsAtEnd}
use Rattle.capture.specs.Types.{Fault}
use denote.Ref.{Bor}

-- bytes were taken from what a reader had left, at most this many, and fewer only at its end
pub record Takes (old new : Option (List ℕ)) (taken : List ℕ) (most : ℕ) : Type 0 where
  pub consumed : Consumes old new taken
  pub few : length taken ≤ most
  pub ended : length taken < most → OnSome old (IsAtEnd new)

-- what was buffered of this many bytes was taken from what a reader had left; these are all where it has ended
pub record TakesPart (old new : Option (List ℕ)) (before behind : List ℕ) (missing : ℕ) (ended : Bool) : Type 0 where
  pub taken : List ℕ
  pub appended : behind ≡ before ++ taken
  pub consumed : Consumes old new taken
  pub few : length taken ≤ missing
  pub all : ended ≡ true → length taken < missing → OnSome old (IsAtEnd new)

-- this many bytes were read of what was left, or all where there are fewer
pub record Reads (left : List ℕ) (now : Option (List ℕ)) (taken : List ℕ) (most : ℕ) : Type 0 where
  pub front : taken ≡ take most left
  pub rest : now ≡ Some (drop most left)

-- bytes were passed over: this many, or fewer at the reader's end
pub record Skips (old new : Option (List ℕ)) (count : ℕ) (whole : Bool) : Type 0 where
  pub passed : List ℕ
  pub consumed : Consumes old new passed
  pub all : whole ≡ true → length passed ≡ count
  pub fewer : whole ≡ false → length passed < count
  pub ended : whole ≡ false → OnSome old (IsAtEnd new)

pub record SkipsPart (old new : Option (List ℕ)) (missing count : ℕ) (ended : Bool) : Type 0 where
  pub passed : List ℕ
  pub consumed : Consumes old new passed
  pub counted : length passed ≡ count
  pub few : count ≤ missing
  pub all : ended ≡ true → count < missing → OnSome old (IsAtEnd new)

-- a look at the buffer kept the known bytes, and those that it showed may be consumed
abbrev pub LookKeeps : Option (List ℕ) → Option (List ℕ) → Option ℕ → Result (Option (Bor (List ℕ))) Fault → Type 0
LookKeeps old new limit r =
    Keeps old new × IfSome old (λ _. IfOk r (λ shown. IfSome shown (λ s. IfSome limit (λ n. length s.now ≤ n))))
