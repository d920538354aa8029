-- What messages say, counted in turn.
use Rattle.std.proofs.Common.{◌≡◌, ◌++◌, ◌∙◌, [], ◌∷◌, Err, List, Ok, OnErr, OnOk, Result, refl, subst, sym}
use Rattle.std.proofs.Common.{ap, append_assoc}
use Rattle.packet_stats.specs.Row.{MentionValue}
use Rattle.packet_stats.specs.Stats.{CountsAll, CountsIn, CountsOne, CountsSome, CountsThat, State}
use Rattle.packet_stats.specs.Subject.{SubjectValue}
use Rattle.packet_stats.specs.Types.{Fault}

-- it is counted in the table of its kind
pub in_table : (r : Result (Unit {0}) Fault) (old new : State) (m : MentionValue) (s : SubjectValue) (T : Type 0)
    → m.subject ≡ s → (T → CountsIn s old m new) → OnOk r T → OnOk r (CountsOne old m new)
in_table (Ok u) old new m s T is there counted = subst (λ x. CountsIn x old m new) (sym is) (there counted)
in_table (Err fault) old new m s T is there counted = tt

-- ---- one after another

pub counts_both : (a b c : State) (ms ns : List MentionValue) → CountsAll a ms b → CountsAll b ns c
    → CountsAll a (ms ++ ns) c
counts_both a b c [] ns first second = subst (λ s. CountsAll s ns c) first second
counts_both a b c (m ∷ ms) ns (next, one, more) second = (next, one, counts_both next b c ms ns more second)

pub counts_one : (a b : State) (m : MentionValue) → CountsOne a m b → CountsAll a (m ∷ []) b
counts_one a b m one = (b, one, refl)

pub some_then : (a b c : State) (ms ns : List MentionValue) → CountsAll a ms b → CountsSome b ns c
    → CountsSome a (ms ++ ns) c
some_then a b c ms ns first second = record {
  done = ms ++ second.done;
  m = second.m;
  left = second.left;
  parts = ap (λ l. ms ++ l) second.parts ∙ sym (append_assoc ms second.done (second.m ∷ second.left));
  counted = counts_both a b c ms second.done first second.counted;
}

-- where the first is not counted, nothing changes
pub none_counted : (a b : State) (m : MentionValue) (more : List MentionValue) → b ≡ a → CountsSome a (m ∷ more) b
none_counted a b m more same =
    record { done = []; m = m; left = more; parts = refl; counted = same }

-- the first of some, with others behind them
pub some_more : (a b : State) (ms ns : List MentionValue) → CountsSome a ms b → CountsSome a (ms ++ ns) b
some_more a b ms ns some = record {
  done = some.done;
  m = some.m;
  left = some.left ++ ns;
  parts = ap (λ l. l ++ ns) some.parts ∙ append_assoc some.done (some.m ∷ some.left) ns;
  counted = some.counted;
}

-- what holds of a fault
pub on_err : {P : Type 0} (r : Result (Unit {0}) Fault) → P → OnErr r P
on_err (Ok u) p = tt
on_err (Err fault) p = p

-- ---- what is said is counted, or where there is a fault the first of it

pub one_counted : (r : Result (Unit {0}) Fault) (a b : State) (m : MentionValue) → OnOk r (CountsOne a m b)
    → OnOk r (CountsAll a (m ∷ []) b)
one_counted (Ok u) a b m one = counts_one a b m one
one_counted (Err fault) a b m one = tt

pub one_broken : (r : Result (Unit {0}) Fault) (a b : State) (m : MentionValue) → OnErr r (b ≡ a)
    → OnErr r (CountsSome a (m ∷ []) b)
one_broken (Ok u) a b m same = tt
one_broken (Err fault) a b m same = none_counted a b m [] same

pub then_counted : (r : Result (Unit {0}) Fault) (a b c : State) (ms ns : List MentionValue) → CountsAll a ms b
    → OnOk r (CountsAll b ns c) → OnOk r (CountsAll a (ms ++ ns) c)
then_counted (Ok u) a b c ms ns first second = counts_both a b c ms ns first second
then_counted (Err fault) a b c ms ns first second = tt

pub then_broken : (r : Result (Unit {0}) Fault) (a b c : State) (ms ns : List MentionValue) → CountsAll a ms b
    → OnErr r (CountsSome b ns c) → OnErr r (CountsSome a (ms ++ ns) c)
then_broken (Ok u) a b c ms ns first second = tt
then_broken (Err fault) a b c ms ns first second = some_then a b c ms ns first second

-- what a message says that is a list
pub that_counted : (r : Result (Unit {0}) Fault) (a b : State) (all : List MentionValue) → OnOk r (CountsAll a all b)
    → OnOk r (CountsThat (λ ms. ms ≡ all) a b)
that_counted (Ok u) a b all counted = (all, refl, counted)
that_counted (Err fault) a b all counted = tt
