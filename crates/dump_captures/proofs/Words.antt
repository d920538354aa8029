-- Arguments that are read in a loop.
use Rattle.std.proofs.Common.{◌≡◌, ℕ, ◌+◌, ◌<◌, List, [], ◌∷◌, ◌++◌, length, take, drop, get_or, refl, ap, sym, ◌∙◌}
use Rattle.std.proofs.Common.{Err, None, Option}
use Rattle.std.proofs.lemmas.List.{map-append, map-id, take-append-drop, take_more}
use Rattle.std.proofs.lemmas.List.Sums.{fold-append, fold_push}
use Rattle.std.proofs.lemmas.Iterator.{YieldsList}
use Rattle.std.proofs.lemmas.Iterator.Adapters.{YieldsList-from_skip, YieldsList-from_vec}
use Rattle.std.proofs.lemmas.Iterator.Consumers.{YieldsList-at}
use Rattle.std.specs.Iterator.Adapters.{skip_count, skip_source, skip_steps}
use Rattle.std.specs.List.{fold}
use Rattle.std.specs.Vec.Iter.{into_iter_items, into_iter_len, into_iter_steps}
use Rattle.std.specs.declared.iter.Skip.{Skip}
use Rattle.std.specs.declared.vec.IntoIter.{IntoIter}
use Rattle.std.specs.Prelude.{map}
use Rattle.dump_captures.specs.Arguments.{ReadingValue, Reads, TaskValue, at_end, ends, more, nothing_read, then_word}
use Rattle.dump_captures.specs.Arguments.{kind_words, only_of, option_words, unknown, unknown_kind, unknown_option}
use Rattle.dump_captures.specs.Arguments.{with_only, with_setting, with_word}
use Rattle.dump_captures.specs.Nearest.{nearest}
use Rattle.dump_captures.specs.Settings.{option_in, setting_of, value_in}

-- what is left of a vector after its first item
pub skipped : {X Z : Type 0} (it : IntoIter X Z) (s : Skip (IntoIter X Z))
    → into_iter_len it ≡ length (into_iter_items it) → skip_source s ≡ it → skip_count s ≡ 1
    → YieldsList (skip_steps (into_iter_steps {X = X} {Z = Z})) (λ y. y) s (drop 1 (into_iter_items it))
skipped it s len source count =
    YieldsList-from_skip 1 (YieldsList-at source (YieldsList-from_vec {s = it} (into_iter_items it) refl len)) count

abbrev pub read : List (List ℕ) → Reads
read words = fold then_word (more nothing_read) words

-- arguments with one more word
pub words-more : (words : List (List ℕ)) (word : List ℕ) (r : ReadingValue) (next : Reads) → read words ≡ more r
    → next ≡ with_word word r → read (words ++ word ∷ []) ≡ next
words-more words word r next so_far is =
    fold_push then_word (more nothing_read) words word ∙ ap (λ reads. then_word reads word) so_far ∙ sym is

-- where one decides the task, the further ones are not looked at
fold-ends : (task : TaskValue) (words : List (List ℕ)) → fold then_word (ends task) words ≡ ends task
fold-ends task [] = refl
fold-ends task (word ∷ words) = fold-ends task words

words-ended : (words rest : List (List ℕ)) (task : TaskValue) → read words ≡ ends task
    → read (words ++ rest) ≡ ends task
words-ended words rest task ended =
    fold-append then_word (more nothing_read) words rest ∙ ap (λ reads. fold then_word reads rest) ended
    ∙ fold-ends task rest

-- the words of some things, of which one is x
pub words-stop : {X : Type 0} (view : X → List ℕ) (all seen : List X) (x : X) (r : ReadingValue) (task : TaskValue)
    → map (λ y. y) seen ≡ take (length seen) all → (length seen < length all) × (x ≡ get_or all (length seen) x)
    → read (map view seen) ≡ more r → ends task ≡ with_word (view x) r → task ≡ at_end (read (map view all))
words-stop view all seen x r task front (within, is) so_far tells =
    let n : ℕ = length seen in
    let next : take (n + 1) all ≡ seen ++ x ∷ [] =
    take_more all n x within ∙ ap (λ y. take n all ++ y ∷ []) (sym is)
    ∙ ap (λ xs. xs ++ x ∷ []) (sym front ∙ map-id seen) in
    let ended : read (map view (take (n + 1) all)) ≡ ends task =
    ap (λ xs. read (map view xs)) next ∙ ap read (map-append view seen (x ∷ []))
    ∙ words-more (map view seen) (view x) r (ends task) so_far tells in
    let whole : read (map view all) ≡ ends task =
    ap (λ xs. read (map view xs)) (sym (take-append-drop (n + 1) all))
    ∙ ap read (map-append view (take (n + 1) all) (drop (n + 1) all))
    ∙ words-ended (map view (take (n + 1) all)) (map view (drop (n + 1) all)) task ended in
    sym (ap at_end whole)

-- all of them
pub words-all : {X : Type 0} (view : X → List ℕ) (all seen : List X) (r : ReadingValue) → map (λ y. y) seen ≡ all
    → read (map view seen) ≡ more r → at_end (more r) ≡ at_end (read (map view all))
words-all view all seen r is so_far =
    ap at_end (sym so_far ∙ ap (λ xs. read (map view xs)) (sym (map-id seen) ∙ is))

-- ---- words that are not known

-- an option, and the one that is nearest
pub unknown-option : (word option : List ℕ) (near : Option (List ℕ)) (r : ReadingValue) → option ≡ option_in word
    → setting_of option ≡ None → near ≡ nearest option option_words
    → ends (unknown (unknown_option word near)) ≡ with_setting (setting_of (option_in word)) (value_in word) word r
unknown-option word option near r is none found = rw (rw is at none, found, is) refl

-- a kind
pub unknown-kind : (list name copy : List ℕ) (near : Option (List ℕ)) (r : ReadingValue) → only_of list ≡ Err name
    → copy ≡ name → near ≡ nearest name kind_words
    → ends (unknown (unknown_kind copy near)) ≡ with_only (only_of list) r
unknown-kind list name copy near r none same found = rw (none, same, found) refl
