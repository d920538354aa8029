-- What parts of a message say is counted in turn.
use Rattle.std.proofs.Common.{◌≡◌, ◌++◌, ◌∙◌, [], List, ap, append-nil, append_assoc, refl, subst, sym}
use Rattle.packet_stats.specs.Row.{MentionValue}
use Rattle.packet_stats.specs.Stats.{CountsAll, CountsSome, State}
use Rattle.packet_stats.proofs.Counting.{counts_both, some_more, some_then}

-- of all that is said the first is counted, and this is left
pub record AreSaid (old : State) (all left : List MentionValue) (new : State) : Type 0 where
  pub done : List MentionValue
  pub parts : all ≡ done ++ left
  pub counted : CountsAll old done new

pub none_yet : (old : State) (all : List MentionValue) → AreSaid old all all old
none_yet old all = record { done = []; parts = refl; counted = refl }

pub one_more : (old between new : State) (all left one rest : List MentionValue) → left ≡ one ++ rest
    → AreSaid old all left between → CountsAll between one new → AreSaid old all rest new
one_more old between new all left one rest next so_far counted = record {
  done = so_far.done ++ one;
  parts = so_far.parts ∙ ap (λ l. so_far.done ++ l) next ∙ sym (append_assoc so_far.done one rest);
  counted = counts_both old between new so_far.done one so_far.counted counted;
}

pub all_said : (old new : State) (all left : List MentionValue) → left ≡ [] → AreSaid old all left new
    → CountsAll old all new
all_said old new all left none so_far =
    subst (λ l. CountsAll old l new)
    (sym (so_far.parts ∙ ap (λ l. so_far.done ++ l) none ∙ append-nil so_far.done)) so_far.counted

-- there is no memory for the next
pub some_said : (old between new : State) (all left one rest : List MentionValue) → left ≡ one ++ rest
    → AreSaid old all left between → CountsSome between one new → CountsSome old all new
some_said old between new all left one rest next so_far some =
    subst (λ l. CountsSome old l new) (sym (so_far.parts ∙ ap (λ l. so_far.done ++ l) next))
    (some_then old between new so_far.done (one ++ rest) so_far.counted (some_more between new one rest some))
