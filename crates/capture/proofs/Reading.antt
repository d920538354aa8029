-- Bytes are taken off a reader, a part at a time.
use Rattle.std.proofs.Common.{◌≡◌, ℕ, ◌+◌, ◌-◌, ◌<◌, ◌≤◌, Bool, true, List, [], ◌++◌}
use Rattle.std.proofs.Common.{length, take, Option, None, Some, OnSome, ap, sym, ◌∙◌, arith}
use Rattle.std.proofs.Common.{append_assoc, length-append, min, eqb-true, nat_eq}
use Rattle.std.proofs.lemmas.Bool.{eqb-false}
use Rattle.std.proofs.lemmas.List.{append-nil, length-take}
use Rattle.std.proofs.KnownBytes.{Consumes-nil, Consumes-trans}
use Rattle.std.specs.Io.KnownBytes.{Consumes, IsAtEnd}
use Rattle.capture.specs.private.Reader.{Takes, TakesPart, Skips, SkipsPart}

-- the bytes that were taken so far
pub record SoFar (old new : Option (List ℕ)) (before now : List ℕ) (count : ℕ) : Type 0 where
  pub taken : List ℕ
  pub appended : now ≡ before ++ taken
  pub consumed : Consumes old new taken
  pub few : length now ≤ count

pub so_far-init : (old : Option (List ℕ)) (before : List ℕ) (count : ℕ) → length before ≤ count
    → SoFar old old before before count
so_far-init old before count few = record {
  taken = [];
  appended = sym (append-nil before);
  consumed = Consumes-nil old;
  few = few;
}

pub so_far-more : (old mid new : Option (List ℕ)) (before now next : List ℕ) (count missing : ℕ) (ended : Bool)
    → SoFar old mid before now count → missing ≡ count - length now → TakesPart mid new now next missing ended
    → SoFar old new before next count
so_far-more old mid new before now next count missing ended so is part = record {
  taken = so.taken ++ part.taken;
  appended = part.appended ∙ ap (λ l. l ++ part.taken) so.appended ∙ append_assoc before so.taken part.taken;
  consumed = Consumes-trans old mid new so.taken part.taken so.consumed part.consumed;
  few = omega (arith, so.few, is, part.few, ap length part.appended, length-append now part.taken);
}

at_end-through : (old mid new : Option (List ℕ)) (taken : List ℕ) → Consumes old mid taken → OnSome mid (IsAtEnd new)
    → OnSome old (IsAtEnd new)
at_end-through None mid new taken c e = tt
at_end-through (Some x) None new taken c e = absurd c
at_end-through (Some x) (Some y) new taken c e = e

pub so_far-ended : (old mid new : Option (List ℕ)) (before now next : List ℕ) (count missing : ℕ) (ended : Bool)
    → SoFar old mid before now count → missing ≡ count - length now → TakesPart mid new now next missing ended
    → ended ≡ true
    → (taken : List ℕ) × (next ≡ before ++ taken) × Takes old new taken (count - length before)
so_far-ended old mid new before now next count missing ended so is part told =
    let all = so_far-more old mid new before now next count missing ended so is part in
    let long : length next ≡ length before + length all.taken =
    ap length all.appended ∙ length-append before all.taken in (
      all.taken,
      all.appended,
      record {
        consumed = all.consumed;
        few = omega (arith, all.few, long);
        ended = λ short. at_end-through old mid new so.taken so.consumed
            (part.all told (omega (arith, short, long, is, ap length part.appended, length-append now part.taken)));
      },
    )

-- ---- bytes that are passed over

-- this many of the bytes are still to be passed over
pub record SkipsSoFar (old new : Option (List ℕ)) (count missing : ℕ) : Type 0 where
  pub passed : List ℕ
  pub consumed : Consumes old new passed
  pub counted : length passed + missing ≡ count

pub skips-more : (old mid new : Option (List ℕ)) (count missing skipped : ℕ) (ended : Bool)
    → SkipsSoFar old mid count missing → SkipsPart mid new missing skipped ended
    → SkipsSoFar old new count (missing - skipped)
skips-more old mid new count missing skipped ended so part = record {
  passed = so.passed ++ part.passed;
  consumed = Consumes-trans old mid new so.passed part.passed so.consumed part.consumed;
  counted = omega (arith, so.counted, part.counted, part.few, length-append so.passed part.passed);
}

pub skips-ended : (old mid new : Option (List ℕ)) (count missing skipped : ℕ) (ended whole : Bool)
    → SkipsSoFar old mid count missing → SkipsPart mid new missing skipped ended → ended ≡ true
    → whole ≡ nat_eq (missing - skipped) 0 → Skips old new count whole
skips-ended old mid new count missing skipped ended whole so part told is =
    let all = skips-more old mid new count missing skipped ended so part in
    record {
      passed = all.passed;
      consumed = all.consumed;
      all = λ yes'. omega (arith, all.counted, eqb-true _ _ (sym is ∙ yes'));
      fewer = λ no'. let some = eqb-false _ _ (sym is ∙ no') in omega (arith, all.counted, some);
      ended = λ no'. let some = eqb-false _ _ (sym is ∙ no') in
          at_end-through old mid new so.passed so.consumed (part.all told (omega (arith, some, part.few)));
    }

-- what was shown is passed over, as far as it is wanted
pub skips-shown : (old new : Option (List ℕ)) (shown : List ℕ) (missing count : ℕ) (ended : Bool)
    → count ≡ min (length shown) missing → Consumes old new (take count shown)
    → (length shown ≡ 0 → OnSome old (IsAtEnd new))
    → (ended ≡ true → count < missing → length shown ≡ 0)
    → SkipsPart old new missing count ended
skips-shown old new shown missing count ended is consumed at_end told = record {
  passed = take count shown;
  consumed = consumed;
  counted = omega (arith, is, length-take count shown);
  few = omega (arith, is);
  all = λ e short. at_end (told e short);
}
