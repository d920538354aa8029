-- The labels of two names side by side, letters in either case.
use Rattle.std.proofs.Common.{◌≡◌, List, ℕ, [], ◌∷◌, Option, Result, Bor, refl, sym, ap, ◌∙◌}
use Rattle.std.specs.Str.{str_to_ascii_lowercase}
use Rattle.control_wire.specs.ErrorType.{Error}
use Rattle.control_wire.specs.DnsNameWalk.{Coming, Walk, label, ending, answer_of, GivesFirst, Gives}
use Rattle.control_wire.proofs.DnsNameLabels.{none_at_end, end_at_none, label_before, label_first}
use Rattle.examples.specs.Resolver.{lowered}
use Rattle.examples.specs.private.Parts.{GivesLabel}

-- labels that are equal in both names follow, and then the end
pub record GiveSameName (left right : List Coming) : Type 0 where
  pub labels : List (List ℕ)
  pub others : List (List ℕ)
  pub left_is : Gives left labels
  pub right_is : Gives right others
  pub same : lowered labels ≡ lowered others

pub same_before : (old new other after : Walk) (result answer : Option (Result (Bor (List ℕ)) Error)) (bytes : List ℕ)
    → GivesFirst old result new → GivesFirst other answer after → answer_of result ≡ label bytes
    → GivesLabel (answer_of answer) bytes → GiveSameName new.ahead after.ahead
    → GiveSameName old.ahead other.ahead
same_before old new other after result answer bytes gives also e (given, f, same_case) same = record {
  labels = bytes ∷ same.labels;
  others = given ∷ same.others;
  left_is = label_before old new result bytes same.labels gives e same.left_is;
  right_is = label_before other after answer given same.others also f same.right_is;
  same = ap (λ (l : List ℕ). l ∷ lowered same.labels) (sym same_case)
      ∙ ap (λ (ls : List (List ℕ)). str_to_ascii_lowercase given ∷ ls) same.same;
}

first_same : (a b : List ℕ) (xs ys : List (List ℕ)) → a ∷ xs ≡ b ∷ ys → (a ≡ b) × (xs ≡ ys)
first_same a b xs ys e = (cc, cc)

both_after : (old new other after : Walk) (result answer : Option (Result (Bor (List ℕ)) Error)) (bytes : List ℕ)
    (labels others : List (List ℕ)) → GivesFirst old result new → GivesFirst other answer after
    → answer_of result ≡ label bytes → Gives old.ahead labels → Gives other.ahead others
    → lowered labels ≡ lowered others
    → GivesLabel (answer_of answer) bytes × GiveSameName new.ahead after.ahead
both_after old new other after result answer bytes [] others gives also e g h same =
    let f = end_at_none old new result gives g in cc (e, f)
both_after old new other after result answer bytes (l ∷ labels) [] gives also e g h same = cc same
both_after old new other after result answer bytes (l ∷ labels) (o ∷ others) gives also e g h same =
    let x = label_first old new result l labels gives g in
    let y = label_first other after answer o others also h in
    let first = x.0 in
    let is : l ≡ bytes = cc in
    let p = first_same (str_to_ascii_lowercase l) (str_to_ascii_lowercase o) (lowered labels) (lowered others) same in (
      (o, y.0, sym p.0 ∙ ap str_to_ascii_lowercase is),
      record { labels = labels; others = others; left_is = x.1; right_is = y.1; same = p.1 },
    )

pub same_after : (old new other after : Walk) (result answer : Option (Result (Bor (List ℕ)) Error)) (bytes : List ℕ)
    → GivesFirst old result new → GivesFirst other answer after → answer_of result ≡ label bytes
    → GiveSameName old.ahead other.ahead → GivesLabel (answer_of answer) bytes × GiveSameName new.ahead after.ahead
same_after old new other after result answer bytes gives also e same =
    both_after old new other after result answer bytes same.labels same.others gives also e same.left_is same.right_is
    same.same

both_at_end : (old new other after : Walk) (result answer : Option (Result (Bor (List ℕ)) Error))
    (labels others : List (List ℕ)) → GivesFirst old result new → GivesFirst other answer after
    → answer_of result ≡ ending → Gives old.ahead labels → Gives other.ahead others → lowered labels ≡ lowered others
    → answer_of answer ≡ ending
both_at_end old new other after result answer (l ∷ labels) others gives also e g h same =
    let f = (label_first old new result l labels gives g).0 in cc (e, f)
both_at_end old new other after result answer [] (o ∷ others) gives also e g h same = cc same
both_at_end old new other after result answer [] [] gives also e g h same = end_at_none other after answer also h

pub same_at_end : (old new other after : Walk) (result answer : Option (Result (Bor (List ℕ)) Error))
    → GivesFirst old result new → GivesFirst other answer after → answer_of result ≡ ending
    → GiveSameName old.ahead other.ahead → answer_of answer ≡ ending
same_at_end old new other after result answer gives also e same =
    both_at_end old new other after result answer same.labels same.others gives also e same.left_is
    same.right_is same.same

pub none_at_both : (old new other after : Walk) (result answer : Option (Result (Bor (List ℕ)) Error))
    → GivesFirst old result new → GivesFirst other answer after → answer_of result ≡ ending
    → answer_of answer ≡ ending → GiveSameName old.ahead other.ahead
none_at_both old new other after result answer gives also e f = record {
  labels = [];
  others = [];
  left_is = none_at_end old new result gives e;
  right_is = none_at_end other after answer also f;
  same = refl;
}
