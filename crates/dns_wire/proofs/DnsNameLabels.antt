-- The labels that a walk gives before its end, and those of the name.
use Rattle.dns_wire.proofs.Words.{◌≡◌, ◌+◌, [], ◌∷◌, ◌++◌, ◌∙◌, Bor, Coming, Error, GivesFirst, HasPath, IsBrokenPath}
use Rattle.dns_wire.proofs.Words.{IsCompletePath, List, Option, Result, Some, Walk, ℕ, after_first, answer_of, ap}
use Rattle.dns_wire.proofs.Words.{append-nil, append_assoc, at_end, broken_name, if◌then◌else◌, in_window, in_windows}
use Rattle.dns_wire.proofs.Words.{inl, inr, is_ending, joined, label, length, refl, slice_get, subst, sym, whole_name}
use Rattle.dns_wire.specs.DnsName.{IsName}
use Rattle.dns_wire.specs.DnsNameWalk.{fault, ending, Gives}

-- ---- a whole walk

-- the labels of a window, before what else comes
before : (i n : ℕ) (labels more : List (List ℕ)) (ahead : List Coming) → Gives ahead more
    → Gives (in_window i n labels ++ ahead) (labels ++ more)
before i n [] more ahead g = g
before i n (bytes ∷ labels) more ahead g = (refl, before i (n + 1) labels more ahead g)

all_before : (i n : ℕ) (parts : List (List (List ℕ))) (more : List (List ℕ)) (ahead : List Coming) → Gives ahead more
    → Gives (in_windows i n parts ++ ahead) (joined parts ++ more)
all_before i n [] more ahead g = g
all_before i n (labels ∷ parts) more ahead g =
    let rest = all_before (i + 1) (n + length labels) parts more ahead g in
    rw (append_assoc (in_window i n labels) (in_windows (i + 1) (n + length labels) parts) ahead)
    (rw (append_assoc labels (joined parts) more)
    (before i n labels (joined parts ++ more) (in_windows (i + 1) (n + length labels) parts ++ ahead) rest))

whole_gives : (targets : List ℕ) (parts : List (List (List ℕ))) → Gives (whole_name targets parts) (joined parts)
whole_gives targets parts =
    subst (λ labels. Gives (whole_name targets parts) labels) (append-nil (joined parts))
    (all_before 0 0 parts [] (at_end (length (joined parts) + length targets)) refl)

-- what comes after the labels of a window
behind : (i n : ℕ) (labels all : List (List ℕ)) (ahead : List Coming) → Gives (in_window i n labels ++ ahead) all
    → (more : List (List ℕ)) × Gives ahead more
behind i n [] all ahead g = (all, g)
behind i n (bytes ∷ labels) [] ahead g = cc
behind i n (bytes ∷ labels) (first ∷ all) ahead g = behind i (n + 1) labels all ahead g.1

all_behind : (i n : ℕ) (parts : List (List (List ℕ))) (all : List (List ℕ)) (ahead : List Coming)
    → Gives (in_windows i n parts ++ ahead) all → (more : List (List ℕ)) × Gives ahead more
all_behind i n [] all ahead g = (all, g)
all_behind i n (labels ∷ parts) all ahead g =
    let rest = behind i n labels all (in_windows (i + 1) (n + length labels) parts ++ ahead)
    (subst (λ coming. Gives coming all)
    (append_assoc (in_window i n labels) (in_windows (i + 1) (n + length labels) parts) ahead) g) in
    all_behind (i + 1) (n + length labels) parts rest.0 ahead rest.1

fault_first : (n : ℕ) (rest : List Coming) (labels : List (List ℕ))
    → Gives (record { answer = fault; steps = n } ∷ rest) labels → ⊥
fault_first n rest [] g = cc g
fault_first n rest (bytes ∷ more) g = cc g.0

-- one list of labels comes before the end
gives_one : (ahead : List Coming) (labels others : List (List ℕ)) → Gives ahead labels → Gives ahead others
    → labels ≡ others
gives_one [] labels others g h = absurd g
gives_one (c ∷ cs) [] [] g h = refl
gives_one (c ∷ cs) [] (o ∷ os) g h = cc (g, h.0)
gives_one (c ∷ cs) (l ∷ ls) [] g h = cc (h, g.0)
gives_one (c ∷ cs) (l ∷ ls) (o ∷ os) g h =
    let first : label l ≡ label o = sym g.0 ∙ h.0 in
    let rest = gives_one cs ls os g.1 h.1 in
    cc

pub name_gives : (text message : List ℕ) (ahead : List Coming)
    → ((targets : List ℕ) (parts : List (List (List ℕ))) → IsCompletePath text message targets parts
    → ahead ≡ whole_name targets parts) → (labels : List (List ℕ)) → IsName text message labels → Gives ahead labels
name_gives text message ahead complete labels name =
    rw (complete name.targets name.parts name.path, name.is) (whole_gives name.targets name.parts)

pub gives_name : (text message : List ℕ) (ahead : List Coming) → HasPath text message
    → ((targets : List ℕ) (parts : List (List (List ℕ))) → IsCompletePath text message targets parts
    → ahead ≡ whole_name targets parts) → ((targets : List ℕ) (parts : List (List (List ℕ))) (front : List (List ℕ))
    → IsBrokenPath text message targets parts front → ahead ≡ broken_name targets (parts ++ front ∷ []))
    → (labels : List (List ℕ)) → Gives ahead labels → IsName text message labels
gives_name text message ahead either complete broken labels g =
    elim either [
      | inl p ↦
          let is = complete p.0 p.1 p.2 in
          record {
            targets = p.0;
            parts = p.1;
            path = p.2;
            is = gives_one (whole_name p.0 p.1) labels (joined p.1)
                (subst (λ coming. Gives coming labels) is g) (whole_gives p.0 p.1);
          }
      | inr p ↦
          let is = broken p.0 p.1 p.2 p.3 in
          let rest = all_behind 0 0 (p.1 ++ p.2 ∷ []) labels _ (subst (λ coming. Gives coming labels) is g) in
          let n = length (joined (p.1 ++ p.2 ∷ [])) + length p.0 in
          absurd (fault_first n (at_end n) rest.0 rest.1)
    ]

-- ---- one call of `next`

-- a call gives the first answer to come
record Stands (old new : List Coming) (first : Coming) : Type 0 where
  pub rest : List Coming
  pub is : old ≡ first ∷ rest
  pub after : new ≡ (if is_ending first.answer then first ∷ rest else rest)

stands : (old new : List Coming) (first : Coming) → slice_get old 0 ≡ Some first → new ≡ after_first old
    → Stands old new first
stands [] new first e after = cc
stands (c ∷ cs) new first e after =
    let same : c ≡ first = cc in
    record {
      rest = cs;
      is = ap (λ c. c ∷ cs) same;
      after = after ∙ ap (λ c. if is_ending c.answer then c ∷ cs else cs) same;
    }

-- the answer of a call is the first answer to come
stands_after : (old new : Walk) (result : Option (Result (Bor (List ℕ)) Error)) → GivesFirst old result new
    → Stands old.ahead new.ahead (record { answer = answer_of result; steps = new.steps })
stands_after old new result gives =
    stands old.ahead new.ahead (record { answer = answer_of result; steps = new.steps }) gives.first gives.rest

-- the labels to come are none at the end; else they begin with the label that the call gave
pub none_at_end : (old new : Walk) (result : Option (Result (Bor (List ℕ)) Error)) → GivesFirst old result new
    → answer_of result ≡ ending → Gives old.ahead []
none_at_end old new result gives e =
    let s = stands_after old new result gives in
    rw s.is e

pub end_at_none : (old new : Walk) (result : Option (Result (Bor (List ℕ)) Error)) → GivesFirst old result new
    → Gives old.ahead [] → answer_of result ≡ ending
end_at_none old new result gives g =
    let s = stands_after old new result gives in
    subst (λ coming. Gives coming []) s.is g

pub label_before : (old new : Walk) (result : Option (Result (Bor (List ℕ)) Error)) (bytes : List ℕ)
    (more : List (List ℕ)) → GivesFirst old result new → answer_of result ≡ label bytes → Gives new.ahead more
    → Gives old.ahead (bytes ∷ more)
label_before old new result bytes more gives e g =
    let s = stands_after old new result gives in
    let after : new.ahead ≡ s.rest = s.after ∙ ap (λ a. if is_ending a
    then record { answer = answer_of result; steps = new.steps } ∷ s.rest else s.rest) e in
    rw s.is (e, subst (λ coming. Gives coming more) after g)

pub label_first : (old new : Walk) (result : Option (Result (Bor (List ℕ)) Error)) (bytes : List ℕ)
    (more : List (List ℕ)) → GivesFirst old result new → Gives old.ahead (bytes ∷ more)
    → (answer_of result ≡ label bytes) × Gives new.ahead more
label_first old new result bytes more gives g =
    let s = stands_after old new result gives in
    let at = subst (λ coming. Gives coming (bytes ∷ more)) s.is g in
    let after : new.ahead ≡ s.rest = s.after ∙ ap (λ a. if is_ending a
    then record { answer = answer_of result; steps = new.steps } ∷ s.rest else s.rest) at.0 in
    (at.0, subst (λ coming. Gives coming more) (sym after) at.1)

-- ---- two walks side by side

-- the same labels are to come of both, and then the end
abbrev pub GiveSame : List Coming → List Coming → Type 0
GiveSame left right = (labels : List (List ℕ)) × Gives left labels × Gives right labels

pub same_before : (old new other after : Walk) (result answer : Option (Result (Bor (List ℕ)) Error)) (bytes : List ℕ)
    → GivesFirst old result new → GivesFirst other answer after → answer_of result ≡ label bytes
    → answer_of answer ≡ label bytes → GiveSame new.ahead after.ahead → GiveSame old.ahead other.ahead
same_before old new other after result answer bytes gives also e f same = (
  bytes ∷ same.0,
  label_before old new result bytes same.0 gives e same.1,
  label_before other after answer bytes same.0 also f same.2,
)

same_labels_after : (old new other after : Walk) (result answer : Option (Result (Bor (List ℕ)) Error))
    (bytes : List ℕ) (labels : List (List ℕ)) → GivesFirst old result new → GivesFirst other answer after
    → answer_of result ≡ label bytes → Gives old.ahead labels → Gives other.ahead labels
    → (answer_of answer ≡ label bytes) × GiveSame new.ahead after.ahead
same_labels_after old new other after result answer bytes [] gives also e g h =
    let f = end_at_none old new result gives g in cc
same_labels_after old new other after result answer bytes (l ∷ ls) gives also e g h =
    let x = label_first old new result l ls gives g in
    let y = label_first other after answer l ls also h in
    let same : l ≡ bytes = cc in
    (cc, (ls, x.1, y.1))

pub same_after : (old new other after : Walk) (result answer : Option (Result (Bor (List ℕ)) Error)) (bytes : List ℕ)
    → GivesFirst old result new → GivesFirst other answer after → answer_of result ≡ label bytes
    → GiveSame old.ahead other.ahead → (answer_of answer ≡ label bytes) × GiveSame new.ahead after.ahead
same_after old new other after result answer bytes gives also e (labels, g, h) =
    same_labels_after old new other after result answer bytes labels gives also e g h

pub same_at_end : (old new other after : Walk) (result answer : Option (Result (Bor (List ℕ)) Error))
    → GivesFirst old result new → GivesFirst other answer after → answer_of result ≡ ending
    → GiveSame old.ahead other.ahead → answer_of answer ≡ ending
same_at_end old new other after result answer gives also e (labels, g, h) =
    let none = gives_one old.ahead labels [] g (none_at_end old new result gives e) in
    end_at_none other after answer also (subst (λ ls. Gives other.ahead ls) none h)
