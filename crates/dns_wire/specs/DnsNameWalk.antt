-- The walk over a name: what a caller sees of it, and the answers that it gives.
use Rattle.std.specs.Prelude.{◌≡◌, ◌+◌, ◌*◌, ◌≤◌, [], ◌∷◌, ◌++◌, ◌↔◌, Bool, Err, List, None, Ok, Option, Result, Some}
use Rattle.std.specs.Prelude.{ℕ, false, if◌then◌else◌, length, slice_get, true}
use Rattle.std.specs.Borrow.{Bor}
use Rattle.std.specs.List.{AllByRecursion}
use Rattle.wirebase.specs.declared.error.Error.{Error}
use Rattle.dns_wire.specs.DnsName.{IsCompletePath, IsBrokenPath, IsName, HasPath, Follows, joined}

-- ---- what a caller sees

-- what one call of `next` answers: a label, an error, or that there is no more
pub data Answer : Type 0 where
  label : List ℕ → Answer
  fault : Answer
  ending : Answer

-- an answer still to come, and the steps after it: labels given and pointers followed
pub record Coming : Type 0 where
  pub answer : Answer
  pub steps : ℕ

-- the steps so far, and the answers still to come, of which the end is the last
pub record Walk : Type 0 where
  pub steps : ℕ
  pub ahead : List Coming

abbrev pub at_end : ℕ → List Coming
at_end n = record { answer = ending; steps = n } ∷ []

abbrev pub at_fault : ℕ → List Coming
at_fault n = record { answer = fault; steps = n } ∷ at_end n

-- the answer that a result of `next` is
abbrev pub answer_of : Option (Result (Bor (List ℕ)) Error) → Answer
answer_of None = ending
answer_of (Some (Ok bytes)) = label bytes.now
answer_of (Some (Err e)) = fault

abbrev pub is_ending : Answer → Bool
is_ending ending = true
is_ending _ = false

-- the end stays, any other answer is taken off
abbrev pub after_first : List Coming → List Coming
after_first [] = []
after_first (c ∷ cs) = if is_ending c.answer then c ∷ cs else cs

-- A call gives the first answer to come, and takes it off unless it is the end. The steps after it are the steps so
-- far.
pub record GivesFirst (old : Walk) (result : Option (Result (Bor (List ℕ)) Error)) (new : Walk) : Type 0 where
  pub first : slice_get old.ahead 0 ≡ Some (record { answer = answer_of result; steps = new.steps })
  pub rest : new.ahead ≡ after_first old.ahead

-- these labels come, and then the end
abbrev pub Gives : List Coming → List (List ℕ) → Type 0
Gives [] labels = ⊥
Gives (c ∷ cs) [] = c.answer ≡ ending
Gives (c ∷ cs) (bytes ∷ more) = (c.answer ≡ label bytes) × Gives cs more

-- ---- the answers

-- The labels of window i, where n labels come before them: after the n-th label, in window i, there were n + i steps.
abbrev pub in_window : ℕ → ℕ → List (List ℕ) → List Coming
in_window i n [] = []
in_window i n (bytes ∷ more) = record { answer = label bytes; steps = (n + 1) + i } ∷ in_window i (n + 1) more

-- the labels of the windows from window i on
abbrev pub in_windows : ℕ → ℕ → List (List (List ℕ)) → List Coming
in_windows i n [] = []
in_windows i n (labels ∷ more) = in_window i n labels ++ in_windows (i + 1) (n + length labels) more

-- the labels of a path, and then the end
abbrev pub whole_name : List ℕ → List (List (List ℕ)) → List Coming
whole_name targets parts = in_windows 0 0 parts ++ at_end (length (joined parts) + length targets)

-- the labels of a path, one error, and then the end
abbrev pub broken_name : List ℕ → List (List (List ℕ)) → List Coming
broken_name targets parts = in_windows 0 0 parts ++ at_fault (length (joined parts) + length targets)

-- following finds these labels, and no others
abbrev pub FollowsOnly : List ℕ → List ℕ → List (List ℕ) → Type 0
FollowsOnly message text labels =
    Follows message text labels × ((others : List (List ℕ)) → Follows message text others → others ≡ labels)

-- The walk over the name that begins in a text and may go on in a message. It has taken no step. There is a complete
-- path, or else a broken one. On a complete path it gives the labels and then the end, and these are the labels that
-- following finds; on a broken path it gives the labels before the break, one error, and then the end. No answer
-- comes after more than half as many steps as there are bytes. So it gives labels and then the end exactly where the
-- name has these labels.
pub record IsWalkOver (text message : List ℕ) (walk : Walk) : Type 0 where
  pub start : walk.steps ≡ 0
  pub either : HasPath text message
  pub complete : (targets : List ℕ) (parts : List (List (List ℕ)))
      → IsCompletePath text message targets parts → walk.ahead ≡ whole_name targets parts
  pub follows : (targets : List ℕ) (parts : List (List (List ℕ)))
      → IsCompletePath text message targets parts → FollowsOnly message text (joined parts)
  pub broken : (targets : List ℕ) (parts : List (List (List ℕ))) (front : List (List ℕ))
      → IsBrokenPath text message targets parts front → walk.ahead ≡ broken_name targets (parts ++ front ∷ [])
  pub names : (labels : List (List ℕ)) → Gives walk.ahead labels ↔ IsName text message labels
  pub linear : AllByRecursion (λ c. 2 * c.steps ≤ length text + length message) walk.ahead
