-- What an output gains in several writes.
use Rattle.std.proofs.Common.{◌≡◌, ◌+◌, ◌<◌, [], ◌∷◌, ◌++◌, Err, List, Ok, OnOk, Option, Result, ℕ, ap, flat_map, get_or}
use Rattle.std.proofs.Common.{length, subst, take}
use Rattle.std.proofs.lemmas.Grind.{flat_map-append}
use Rattle.std.proofs.lemmas.List.{append-nil, take_more}
use Rattle.std.proofs.KnownBytes.{Appends-nil, Appends-trans}
use Rattle.std.specs.Io.KnownBytes.{Appends}
use Rattle.std.specs.Fmt.{WritesInCalls}
use Rattle.std.specs.List.{FoldsTo, concat}
use Rattle.wirebase.specs.Sink.{PutsText}
use Rattle.packet_fields.specs.Output.{Appending, Gains, GainsSome}
use Rattle.wirebase.proofs.Sinks.{put_one}

-- what was appended was gained
pub gained : (a b : Option (List ℕ)) (text : List ℕ) → Appends a b text → Gains a b text
gained a b text appends = record { appends = appends }

-- texts that were put into a writer, and one of one call
calls_append : {W : Type 0} (contents : W → Option (List ℕ)) (a b : W) (parts : List (List ℕ))
    → FoldsTo (Appending contents) a parts b → Appends (contents a) (contents b) (concat parts)
unfolding Appending
calls_append contents a b [] calls = subst (λ w. Appends (contents a) (contents w) []) calls (Appends-nil (contents a))
calls_append contents a b (part ∷ parts) (next, first, more) =
    Appends-trans (contents a) (contents next) (contents b) part (concat parts) first
    (calls_append contents next b parts more)

pub calls_gain : {W : Type 0} (contents : W → Option (List ℕ)) (a b : W) (text : List ℕ)
    → WritesInCalls (Appending contents) a text b → Gains (contents a) (contents b) text
calls_gain contents a b text calls =
    record {
      appends = subst (Appends (contents a) (contents b)) calls.whole (calls_append contents a b calls.parts
          calls.calls);
    }

pub put : {W E : Type 0} (contents : W → Option (List ℕ)) (a b : W) (text : List ℕ)
    → PutsText {E = E} (Appending contents) a text (Ok tt) b → Gains (contents a) (contents b) text
put contents a b text puts = calls_gain contents a b text puts.calls

pub put_on_ok : {W E : Type 0} (contents : W → Option (List ℕ)) (a b : W) (text : List ℕ) (r : Result (Unit {0}) E)
    → PutsText (Appending contents) a text r b → OnOk r (Gains (contents a) (contents b) text)
put_on_ok contents a b text (Ok x) puts = put contents a b text puts
put_on_ok contents a b text (Err e) puts = tt

pub put_once : {W E : Type 0} (contents : W → Option (List ℕ)) (a b : W) (text : List ℕ) (r : Result (Unit {0}) E)
    → OnOk r (Appends (contents a) (contents b) text) → PutsText (Appending contents) a text r b
unfolding Appending
put_once contents a b text (Ok x) appends = record { calls = put_one (Appending contents) a b text appends }
put_once contents a b text (Err e) appends = record { calls = tt }

-- nothing is gained where nothing is written
pub gains_none : (a : Option (List ℕ)) → Gains a a []
gains_none a = record { appends = Appends-nil a }

-- one text, and then another
pub gains_both : (a b c : Option (List ℕ)) (text more : List ℕ) → Gains a b text → Gains b c more
    → Gains a c (text ++ more)
gains_both a b c text more first second =
    record { appends = Appends-trans a b c text more first.appends second.appends }

-- a text that is written in a row with others
infixl 20 ◌then◌
pub ◌then◌ : {a b c : Option (List ℕ)} {text more : List ℕ} → Gains a b text → Gains b c more → Gains a c (text ++ more)
first then second = gains_both _ _ _ _ _ first second

-- a text that is written where the last write may fail
pub gains_last : {E : Type 0} {a b : Option (List ℕ)} {text : List ℕ} (c : Option (List ℕ)) (more : List ℕ)
    (r : Result (Unit {0}) E)
    → Gains a b text → OnOk r (Gains b c more) → OnOk r (Gains a c (text ++ more))
gains_last c more (Ok x) first second = gains_both _ _ _ _ _ first second
gains_last c more (Err e) first second = tt

-- what a write appended where it did not fail was gained there
pub gained_on_ok : {E : Type 0} (a b : Option (List ℕ)) (text : List ℕ) (r : Result (Unit {0}) E)
    → OnOk r (Appends a b text) → OnOk r (Gains a b text)
gained_on_ok a b text (Ok x) appends = gained _ _ _ appends
gained_on_ok a b text (Err e) appends = tt

-- a text of a kind that is gained where the last write does not fail, and one that is of another kind too
pub gained_text : {E : Type 0} (IsText : List ℕ → Type 0) (text : List ℕ) (a b : Option (List ℕ))
    (r : Result (Unit {0}) E) → IsText text → OnOk r (Gains a b text) → OnOk r (GainsSome a b IsText)
gained_text IsText text a b (Ok x) is gains = (text, is, gains)
gained_text IsText text a b (Err e) is gains = tt

pub gained_as : {E : Type 0} (IsText IsOther : List ℕ → Type 0) (a b : Option (List ℕ)) (r : Result (Unit {0}) E)
    → ((text : List ℕ) → IsText text → IsOther text) → OnOk r (GainsSome a b IsText) → OnOk r (GainsSome a b IsOther)
gained_as IsText IsOther a b (Ok x) other (text, is, gains) = (text, other text is, gains)
gained_as IsText IsOther a b (Err e) other gains = tt

-- a list that is printed in a loop: the listings of the first i elements and of one more
pub one_more : {X : Type 0} (listing : X → List ℕ) (xs : List X) (i : ℕ) (d : X) → i < length xs
    → flat_map listing (take (i + 1) xs) ≡ flat_map listing (take i xs) ++ listing (get_or xs i d)
one_more listing xs i d h =
    rw (take_more xs i d h, flat_map-append)
    (ap (λ more. flat_map listing (take i xs) ++ more) (append-nil _))
