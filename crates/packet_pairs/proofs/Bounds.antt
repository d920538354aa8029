-- What is kept stays within bounds.
use Rattle.std.proofs.Common.{◌≡◌, ◌≤◌, [], ◌∷◌, Bool, Err, IfOk, List, Ok, OnErr, Option, Result, ap, arith, false}
use Rattle.std.proofs.Common.{if◌then◌else◌, length, length-append, subst, sym, take, true, ℕ}
use Rattle.std.proofs.lemmas.List.{length-take}
use Rattle.packet_pairs.specs.Bounds.{IsWithinBounds}
use Rattle.packet_pairs.specs.Exchange.{ExchangeValue}
use Rattle.packet_pairs.specs.Pairs.{AskedValue, Sees, State, answers_none, answers_one, answers_too, asked_again, asks}
use Rattle.packet_pairs.specs.Pairs.{asks_again, drops, first_asked, goes_to_many, most_answered}
use Rattle.packet_pairs.specs.Types.{Answered, Fault}

few : (b : Bool) (q : AskedValue) (qs : List AskedValue) → length qs ≤ most_answered
    → length (if b then take most_answered (q ∷ qs) else qs) ≤ most_answered
few true q qs h = omega (arith, length-take most_answered (q ∷ qs))
few false q qs h = h

sees_within : (old new : State) (number : ℕ) (time : Option ℕ) (e : ExchangeValue) (answer : Option Answered)
    → IsWithinBounds old → Sees old number time e answer new → IsWithinBounds new
sees_within old new number time e answer b (asks r u room a n) = subst IsWithinBounds (sym n) (record {
  waiting = omega (arith, length-append old.waiting (first_asked number time e.key ∷ []), room);
  answered = b.answered;
})
sees_within old new number time e answer b (drops first rest r u many o a n) = subst IsWithinBounds (sym n) (record {
  waiting = omega (arith, length-append rest (first_asked number time e.key ∷ []), ap length o, b.waiting);
  answered = b.answered;
})
sees_within old new number time e answer b (asks_again before behind q r o u s a n) =
    subst IsWithinBounds (sym n) (record {
      waiting =
          omega (
            arith,
            length-append before (asked_again q ∷ behind),
            length-append before (q ∷ behind),
            ap length o,
            b.waiting,
          );
      answered = b.answered;
    })
sees_within old new number time e answer b (answers_one before behind q r o u s a n) =
    subst IsWithinBounds (sym n) (record {
      waiting =
          omega (arith, length-append before behind, length-append before (q ∷ behind), ap length o, b.waiting);
      answered = few (goes_to_many q.key) q old.answered b.answered;
    })
sees_within old new number time e answer b (answers_too before behind q r v o u s a n) =
    subst IsWithinBounds (sym n) b
sees_within old new number time e answer b (answers_none r u v a n) = subst IsWithinBounds (sym n) b

-- with an answer or without memory
pub stays_within : (old new : State) (number : ℕ) (time : Option ℕ) (e : ExchangeValue)
    (r : Result (Option Answered) Fault) → IfOk r (λ answer. Sees old number time e answer new)
    → OnErr r (new ≡ old) → IsWithinBounds old → IsWithinBounds new
stays_within old new number time e (Ok answer) sees fault b = sees_within old new number time e answer b sees
stays_within old new number time e (Err x) sees fault b = subst IsWithinBounds (sym fault) b
