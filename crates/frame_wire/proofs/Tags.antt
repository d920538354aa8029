-- Tags follow one another.
use Rattle.frame_wire.proofs.Words.{◌≡◌, ◌+◌, ◌-◌, ◌≤◌, [], ◌++◌, ◌∙◌, ◌<◌, ◌↔◌, Bool, Err, IfErr, IfOk, IsTagged}
use Rattle.frame_wire.proofs.Words.{IsTrue, List, Ok, Result, ℕ, ap, append-nil, append_assoc, arith, drop, false, field}
use Rattle.frame_wire.proofs.Words.{length, length-drop, number_of, part, refl, subst, sym, take, true}
use Rattle.std.proofs.lemmas.List.{drop-drop}
use Rattle.std.proofs.Math.Seq.{take-add}
use Rattle.frame_wire.specs.Link.{IsTagType, plain, tagged}
use Rattle.frame_wire.specs.LinkRefusal.{IsTagCut, here, later}

-- the first bytes are tags, after which `last` is the type of what follows: what is tagged there is tagged here
pub record SoFar (type : ℕ) (bytes : List ℕ) (last end : ℕ) : Type 0 where
  pub fits : end ≤ length bytes
  pub forth : (tags : List ℕ) (final : ℕ) (rest : List ℕ) → IsTagged last (drop end bytes) tags final rest
      → IsTagged type bytes (take end bytes ++ tags) final rest
  pub back : (tags : List ℕ) (final : ℕ) (rest : List ℕ) → IsTagged type bytes tags final rest
      → (more : List ℕ) × (tags ≡ take end bytes ++ more) × IsTagged last (drop end bytes) more final rest
  pub cut : IsTagCut last (drop end bytes) → IsTagCut type bytes

pub so_far-init : (type : ℕ) (bytes : List ℕ) → SoFar type bytes type 0
so_far-init type bytes = record {
  fits = omega arith;
  forth = λ tags final rest is. is;
  back = λ tags final rest is. (tags, refl, is);
  cut = λ is. is;
}

-- one tag more
one_back : (type : ℕ) (bytes tags : List ℕ) (final : ℕ) (rest : List ℕ) → IsTagType type
    → IsTagged type bytes tags final rest
    → (more : List ℕ) × (tags ≡ take 4 bytes ++ more) × IsTagged (number_of (field 2 4) bytes)
    (drop 4 bytes) more final rest
one_back type bytes tags final rest is (plain no_tag none e b) = absurd (no_tag is)
one_back type bytes tags final rest is (tagged more tag long behind e) = (more, e, behind)

pub so_far-more : (type : ℕ) (bytes : List ℕ) (last end next : ℕ) → SoFar type bytes last end → IsTagType last
    → 4 ≤ length bytes - end → next ≡ number_of (field 2 4) (drop end bytes) → SoFar type bytes next (end + 4)
so_far-more type bytes last end next so tag room e =
    let long : 4 ≤ length (drop end bytes) = omega (arith, length-drop end bytes, room) in
    let split : take (end + 4) bytes ≡ take end bytes ++ take 4 (drop end bytes) = take-add end 4 bytes in
    let behind : drop 4 (drop end bytes) ≡ drop (end + 4) bytes = drop-drop 4 end bytes in
    record {
      fits = omega (arith, so.fits, room);
      forth = λ tags final rest is.
          subst (λ l. IsTagged type bytes l final rest)
          (sym (append_assoc (take end bytes) (take 4 (drop end bytes)) tags) ∙ ap (λ l. l ++ tags) (sym split))
          (so.forth (take 4 (drop end bytes) ++ tags) final rest
          (tagged tags tag long
          (subst (λ n. IsTagged n (drop 4 (drop end bytes)) tags final rest) e
          (subst (λ l. IsTagged next l tags final rest) (sym behind) is)) refl));
      back = λ tags final rest is.
          let first = so.back tags final rest is in
          let second = one_back last (drop end bytes) first.0 final rest tag first.2 in (
            second.0,
            first.1 ∙ ap (λ l. take end bytes ++ l) second.1
                ∙ sym (append_assoc (take end bytes) (take 4 (drop end bytes)) second.0) ∙ ap
                (λ l. l ++ second.0) (sym split),
            subst (λ l. IsTagged next l second.0 final rest) behind
                (subst (λ n. IsTagged n (drop 4 (drop end bytes)) second.0 final rest) (sym e) second.2),
          );
      cut = λ is.
          so.cut (later tag long
          (subst (λ n. IsTagCut n (drop 4 (drop end bytes))) e (subst (λ l. IsTagCut next l) (sym behind) is)));
    }

short_none : (type : ℕ) (bytes tags : List ℕ) (final : ℕ) (rest : List ℕ) → IsTagType type → length bytes < 4
    → IsTagged type bytes tags final rest → ⊥
short_none type bytes tags final rest is short (plain no_tag none e b) = no_tag is
short_none type bytes tags final rest is short (tagged more tag long behind e) = omega (arith, long, short)

-- a tag that is cut short
pub cut_none : (type : ℕ) (bytes : List ℕ) (last end : ℕ) → SoFar type bytes last end → IsTagType last
    → length bytes - end < 4 → (tags : List ℕ) (final : ℕ) (rest : List ℕ) → IsTagged type bytes tags final rest → ⊥
cut_none type bytes last end so tag short tags final rest is =
    let behind = so.back tags final rest is in
    short_none last (drop end bytes) behind.0 final rest tag (omega (arith, short, length-drop end bytes)) behind.2

pub cut_here : (type : ℕ) (bytes : List ℕ) (last end : ℕ) → SoFar type bytes last end → IsTagType last
    → length bytes - end < 4 → IsTagCut type bytes
cut_here type bytes last end so tag short = so.cut (here tag (omega (arith, short, length-drop end bytes)))

pub so_far-last : (type : ℕ) (bytes : List ℕ) (last end : ℕ) → SoFar type bytes last end → (IsTagType last → ⊥)
    → IsTagged type bytes (take end bytes) last (drop end bytes)
so_far-last type bytes last end so none =
    subst (λ l. IsTagged type bytes l last (drop end bytes)) (append-nil (take end bytes))
    (so.forth [] last (drop end bytes) (plain none refl refl refl))

pub part-behind : (bytes : List ℕ) (end : ℕ) → part bytes (end + 2) (end + 4) ≡ part (drop end bytes) 2 4
unfolding part
part-behind bytes end =
    let two : end + 4 - (end + 2) ≡ 2 = omega arith in
    rw two (ap (take 2) (sym (drop-drop 2 end bytes)))

pub told : {P : Type 0} (b : Bool) → (IsTrue b ↔ P) → b ≡ true → P
told b is yes' = is.0 yes'

pub told_not : {P : Type 0} (b : Bool) → (IsTrue b ↔ P) → b ≡ false → P → ⊥
told_not b is no' p = let both : true ≡ false = sym (is.1 p) ∙ no' in cc

pub if_ok : {T E : Type 0} (P Q : T → Type 0) (r : Result T E) → ((x : T) → P x → Q x) → IfOk r P → IfOk r Q
if_ok P Q (Ok x) f h = f x h
if_ok P Q (Err e) f h = tt

pub if_err : {T E : Type 0} (P Q : E → Type 0) (r : Result T E) → ((e : E) → P e → Q e) → IfErr r P → IfErr r Q
if_err P Q (Ok x) f h = tt
if_err P Q (Err e) f h = f e h
