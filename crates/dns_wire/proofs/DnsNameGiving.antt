-- What a call of `next` has to answer where the answers to come are known.
use Rattle.dns_wire.proofs.Words.{◌≡◌, ◌<◌, [], ◌∷◌, ◌∙◌, Bor, Coming, Err, Error, GivesFirst, List, None, Ok, Option}
use Rattle.dns_wire.proofs.Words.{Result, Some, Walk, ℕ, after_first, answer_of, ap, arith, at_end, false, is_ending}
use Rattle.dns_wire.proofs.Words.{refl, slice_get}
use Rattle.std.specs.Iterator.{MakesProgress, at_most}
use Rattle.dns_wire.specs.private.Parts.{items_in}

-- A call that gives an item: it was the first answer to come, and the rest follows.
pub gives_item : (old : Walk) (result : Option (Result (Bor (List ℕ)) Error)) (n : ℕ) (ahead : List Coming)
    → old.ahead ≡ record { answer = answer_of result; steps = n } ∷ ahead → is_ending (answer_of result) ≡ false
    → GivesFirst old result (record { steps = n; ahead = ahead })
gives_item old result n ahead e i = record {
  first = rw e refl;
  rest = rw (e, i) refl;
}

-- A call that gives the end: it was the only answer to come, and remains.
pub gives_end : (old : Walk) (n : ℕ) (ahead : List Coming) → old.ahead ≡ at_end n → ahead ≡ at_end n
    → GivesFirst old None (record { steps = n; ahead = ahead })
gives_end old n ahead e stays = record {
  first = rw e refl;
  rest = rw (e, stays) refl;
}

-- An item is given where it was the first answer to come, so fewer are left.
not_ending : (x : Result (Bor (List ℕ)) Error) → is_ending (answer_of (Some x)) ≡ false
not_ending (Ok bytes) = refl
not_ending (Err e) = refl

fewer_ahead : (old : List Coming) (c : Coming) (ahead : List Coming) → slice_get old 0 ≡ Some c
    → is_ending c.answer ≡ false → ahead ≡ after_first old → items_in ahead < items_in old
fewer_ahead [] c ahead first i rest = cc
fewer_ahead (d ∷ ds) c ahead first i rest =
    let same : d ≡ c = cc in
    let going : is_ending d.answer ≡ false = ap (λ k. is_ending k.answer) same ∙ i in
    rw (rest, going) (omega arith)

pub progress_given : (old new : Walk) (x : Result (Bor (List ℕ)) Error) → GivesFirst old (Some x) new
    → MakesProgress {S = Walk} {A = Result (Bor (List ℕ)) Error} (λ _. Unit {0}) (λ w. at_most (items_in w.ahead)) old
    (Some x) new
progress_given old new x gives = record {
  on = λ _. (tt, tt, fewer_ahead old.ahead _ new.ahead gives.first (not_ending x) gives.rest);
  keeps = tt;
  rests = λ _. tt;
}
