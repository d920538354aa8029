-- Options lead to one length of a jumbogram at most.
use Rattle.frame_wire.proofs.Words.{◌≡◌, ◌∙◌, IfSome, List, None, Option, Some, ℕ, arith, drop, subst}
use Rattle.frame_wire.proofs.Words.{sym}
use Rattle.frame_wire.specs.DatagramJumbogram.{IsJumbo, OtherEndsAt, HasJumbo, first, later, pad1, sized}

other_one : (options : List ℕ) (a b : ℕ) → OtherEndsAt options a → OtherEndsAt options b → a ≡ b
other_one options a b (pad1 some none e) (pad1 too zero' f) = e ∙ sym f
other_one options a b (pad1 some none e) (sized two kind other f whole) = absurd (kind none)
other_one options a b (sized two kind other e whole) (pad1 some none f) = absurd (kind none)
other_one options a b (sized two kind other e whole) (sized too kind' other' f whole') = e ∙ sym f

not_both : (options : List ℕ) (n end : ℕ) → IsJumbo options n → OtherEndsAt options end → ⊥
not_both options n end is (pad1 some none e) = omega (arith, is.kind, none)
not_both options n end is (sized two kind other e whole) = other is.kind

behind_other : (options : List ℕ) (n end : ℕ) → OtherEndsAt options end → HasJumbo options n
    → HasJumbo (drop end options) n
behind_other options n end ends (first is) = absurd (not_both options n end is ends)
behind_other options n end ends (later other ends' more) =
    subst (λ e. HasJumbo (drop e options) n) (other_one options other end ends' ends) more

-- options that are passed from here on are passed from the first on, and conversely
pub record JumboSoFar (all rest : List ℕ) : Type 0 where
  pub forth : (n : ℕ) → HasJumbo rest n → HasJumbo all n
  pub back : (n : ℕ) → HasJumbo all n → HasJumbo rest n

pub jumbo_so_far-more : (all rest behind : List ℕ) (end : ℕ) → JumboSoFar all rest → OtherEndsAt rest end
    → behind ≡ drop end rest → JumboSoFar all behind
jumbo_so_far-more all rest behind end so ends b = record {
  forth = λ n is. so.forth n (later end ends (subst (λ l. HasJumbo l n) b is));
  back = λ n is. subst (λ l. HasJumbo l n) (sym b) (behind_other rest n end ends (so.back n is));
}

pub jumbo_found : (all rest : List ℕ) (found : Option ℕ) → JumboSoFar all rest → IfSome found (λ n. IsJumbo rest n)
    → IfSome found (λ n. HasJumbo all n)
jumbo_found all rest (Some n) so is = so.forth n (first is)
jumbo_found all rest None so is = tt

none_here : (rest : List ℕ) → ((end : ℕ) → OtherEndsAt rest end → ⊥) → ((n : ℕ) → IsJumbo rest n → ⊥) → (n : ℕ)
    → HasJumbo rest n → ⊥
none_here rest no_other no_jumbo n (first is) = no_jumbo n is
none_here rest no_other no_jumbo n (later end ends more) = no_other end ends

-- no option follows, and this is none
pub jumbo_none : (all rest : List ℕ) → JumboSoFar all rest → ((end : ℕ) → OtherEndsAt rest end → ⊥)
    → ((n : ℕ) → IsJumbo rest n → ⊥) → (n : ℕ) → HasJumbo all n → ⊥
jumbo_none all rest so no_other no_jumbo n is = none_here rest no_other no_jumbo n (so.back n is)

pub jumbo_one : (options : List ℕ) (m n : ℕ) → HasJumbo options m → HasJumbo options n → m ≡ n
jumbo_one options m n (first is) (first too) = is.number ∙ sym too.number
jumbo_one options m n (first is) (later end ends more) = absurd (not_both options m end is ends)
jumbo_one options m n (later end ends more) (first is) = absurd (not_both options n end is ends)
jumbo_one options m n (later end ends more) (later end' ends' more') =
    jumbo_one (drop end options) m n more
    (subst (λ e. HasJumbo (drop e options) n) (other_one options end' end ends' ends) more')
