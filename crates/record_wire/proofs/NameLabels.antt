-- The labels of a name's text, one after another.
use Rattle.record_wire.proofs.Words.{◌≡◌, ◌+◌, ◌≤◌, [], ◌∷◌, ◌++◌, ◌∙◌, AllByRecursion, GoesOn, IsLabel, IsNameText}
use Rattle.record_wire.proofs.Words.{IsTextOf, List, None, Spells, ℕ, ap, arith, at_other, behind_in, codes, eqb}
use Rattle.record_wire.proofs.Words.{eqb-true, first_byte, inl, inr, length, length-append, refl, subst, sym, wire}
use Rattle.record_wire.proofs.Words.{written, written_all}
use Rattle.record_wire.specs.private.NameReading.{HasLabelsOfText, at_end, at_label}
use Rattle.record_wire.specs.TextRefusal.{Leads}
use Rattle.record_wire.proofs.LabelLists.{written_more, each_more, room_before}
use Rattle.record_wire.proofs.Characters.{chosen, character_some, character_first}
use Rattle.record_wire.proofs.Spelling.{spelling_one, goes_on_none}

pub leads_more : (done : List (List ℕ)) (text left label rest after : List ℕ) → Leads text done left
    → Spells left label rest → rest ≡ codes "." ++ after → 1 ≤ length after → Leads text (done ++ label ∷ []) after
leads_more [] text left label rest after e s dot some =
    (rest, after, subst (λ t. Spells t label rest) (sym e) s, dot, some, refl)
leads_more (d ∷ done) text left label rest after (r, a, spells, is, one, more) s dot some =
    (r, a, spells, is, one, leads_more done a left label rest after more s dot some)

-- what leads to the text of labels is the text of all
pub leads_text : (done : List (List ℕ)) (text left label : List ℕ) (labels : List (List ℕ)) → Leads text done left
    → IsTextOf (label ∷ labels) left → IsTextOf (done ++ label ∷ labels) text
leads_text [] text left label labels e is = subst (λ t. IsTextOf (label ∷ labels) t) (sym e) is
leads_text (d ∷ []) text left label labels (r, a, spells, dot, one, more) is =
    let next = leads_text [] a left label labels more is in
    (r, spells, (a, next.0, dot, next.1, next.2))
leads_text (d ∷ e ∷ done) text left label labels (r, a, spells, dot, one, more) is =
    let next = leads_text (e ∷ done) a left label labels more is in
    (r, spells, (a, next.0, dot, next.1, next.2))

-- the labels of a text that others lead to
pub record Behind (done labels : List (List ℕ)) (left : List ℕ) : Type 0 where
  pub label : List ℕ
  pub more : List (List ℕ)
  pub is : labels ≡ done ++ label ∷ more
  pub text : IsTextOf (label ∷ more) left

dot_more : (after behind : List ℕ) → codes "." ++ after ≡ codes "." ++ behind → after ≡ behind
dot_more after behind e = cc

dot_end : (after : List ℕ) → codes "." ++ after ≡ [] → 1 ≤ length after → ⊥
dot_end after e one = cc e

dot_last : (after : List ℕ) → codes "." ++ after ≡ codes "." → 1 ≤ length after → ⊥
dot_last after e one = let none : after ≡ [] = cc in absurd (omega (arith, ap length none, one))

pub text_behind : (done : List (List ℕ)) (text left label : List ℕ) (labels : List (List ℕ)) → Leads text done left
    → IsTextOf (label ∷ labels) text → Behind done (label ∷ labels) left
text_behind [] text left label labels e is =
    record { label = label; more = labels; is = refl; text = subst (λ t. IsTextOf (label ∷ labels) t) e is }
text_behind (d ∷ done) text left label [] (r, a, spells, dot, one, more) (rest, s, goes) =
    let same = spelling_one d label text r rest spells (ap first_byte dot) s (goes_on_none rest [] goes) in
    let there : rest ≡ codes "." ++ a = same.1 ∙ dot in
    elim goes [
      | inl e ↦ absurd (dot_end a (sym there ∙ e) one)
      | inr e ↦ absurd (dot_last a (sym there ∙ e) one)
    ]
text_behind (d ∷ done) text left label (next ∷ labels) (r, a, spells, dot, one, more) (rest, s, goes) =
    let same = spelling_one d label text r rest spells (ap first_byte dot) s (goes_on_none rest (next ∷ labels) goes) in
    let here : a ≡ goes.0 = dot_more a goes.0 (sym dot ∙ (sym same.1 ∙ goes.2)) in
    let is = subst (λ t. IsTextOf (next ∷ labels) t) (sym here) (goes.1, goes.3, goes.4) in
    let b = text_behind done a left next labels more is in
    record {
      label = b.label;
      more = b.more;
      is = ap (λ (l : List ℕ). l ∷ next ∷ labels) same.0 ∙ ap (λ (ls : List (List ℕ)). d ∷ ls) b.is;
      text = b.text;
    }

-- ---- the labels that were read of a text, before what is left

pub record SoFar (text octets left : List ℕ) : Type 0 where
  pub done : List (List ℕ)
  pub each : AllByRecursion IsLabel done
  pub written : octets ≡ written_all done
  pub leads : Leads text done left

pub one_more : (text octets left label rest after next : List ℕ) → SoFar text octets left → IsLabel label
    → Spells left label rest → rest ≡ codes "." ++ after → 1 ≤ length after → next ≡ octets ++ written label
    → SoFar text next after
one_more text octets left label rest after next so one spells dot some e = record {
  done = so.done ++ label ∷ [];
  each = each_more so.done label so.each one;
  written = e ∙ (ap (λ (o : List ℕ). o ++ written label) so.written ∙ sym (written_more so.done label));
  leads = leads_more so.done text left label rest after so.leads spells dot some;
}

first_more : (done : List (List ℕ)) (label : List ℕ) → (first : List ℕ) × (more : List (List ℕ))
    × (done ++ label ∷ [] ≡ first ∷ more)
first_more [] label = (label, [], refl)
first_more (d ∷ done) label = (d, done ++ label ∷ [], refl)

-- the last label is read, and the end or a last dot follows it
pub all_read : (text octets left label rest next : List ℕ) → SoFar text octets left → IsLabel label
    → Spells left label rest → GoesOn rest [] → next ≡ octets ++ written label → HasLabelsOfText text next
all_read text octets left label rest next so one spells ends e =
    let f = first_more so.done label in
    record {
      first = f.0;
      more = f.1;
      each = subst (λ ls. AllByRecursion IsLabel ls) f.2 (each_more so.done label so.each one);
      is = subst (λ ls. IsTextOf ls text) f.2
          (leads_text so.done text left label [] so.leads (rest, spells, ends));
      written = e ∙ (ap (λ (o : List ℕ). o ++ written label) so.written
          ∙ (sym (written_more so.done label) ∙ ap written_all f.2));
    }

-- what a text has where the labels before were read: a label, which is spelled, fits and is followed by the rest
pub record Next (octets left : List ℕ) (labels done : List (List ℕ)) : Type 0 where
  pub label : List ℕ
  pub more : List (List ℕ)
  pub rest : List ℕ
  pub is : labels ≡ done ++ label ∷ more
  pub one : IsLabel label
  pub each : AllByRecursion IsLabel more
  pub spells : Spells left label rest
  pub no_more : first_byte rest ≡ None
  pub goes : GoesOn rest more
  pub room : length octets + length (written label) + 1 ≤ 255

more_behind : (done : List (List ℕ)) (label : List ℕ) (more : List (List ℕ))
    → AllByRecursion IsLabel (done ++ label ∷ more) → AllByRecursion IsLabel more
more_behind [] label more each = each.1
more_behind (d ∷ done) label more each = more_behind done label more each.1

each_behind : (done : List (List ℕ)) (label : List ℕ) (more : List (List ℕ))
    → AllByRecursion IsLabel (done ++ label ∷ more) → IsLabel label
each_behind [] label more each = each.0
each_behind (d ∷ done) label more each = each_behind done label more each.1

pub next_label : (text octets left label : List ℕ) (labels : List (List ℕ)) (so : SoFar text octets left)
    → IsNameText text (label ∷ labels) → Next octets left (label ∷ labels) so.done
next_label text octets left label labels so is =
    let b = text_behind so.done text left label labels so.leads is.is in
    record {
      label = b.label;
      more = b.more;
      rest = b.text.0;
      is = b.is;
      one = each_behind so.done b.label b.more (subst (λ ls. AllByRecursion IsLabel ls) b.is is.name.each);
      each = more_behind so.done b.label b.more (subst (λ ls. AllByRecursion IsLabel ls) b.is is.name.each);
      spells = b.text.1;
      no_more = goes_on_none b.text.0 b.more b.text.2;
      goes = b.text.2;
      room = subst (λ o. length o + length (written b.label) + 1 ≤ 255) (sym so.written)
          (room_before so.done b.label b.more (subst (λ ls. length (wire ls) ≤ 255) b.is is.name.fits));
    }

-- ---- what follows a label

spelled_some : (after label rest : List ℕ) → Spells after label rest → 1 ≤ length label → 1 ≤ length after
spelled_some after [] rest s one = absurd (omega arith)
spelled_some after (b ∷ label) rest (character, behind, is, whole, s) one =
    omega (arith, character_some b character is, ap length whole, length-append character behind)

pub end_behind : (text : List ℕ) → behind_in text ≡ at_end → GoesOn text []
end_behind [] e = inl refl
end_behind (x ∷ []) e =
    elim (chosen (eqb x 46) at_end at_other at_end e) [
      | inl h ↦ inr (ap (λ (n : ℕ). n ∷ []) (eqb-true x 46 h.0))
      | inr h ↦ cc
    ]
end_behind (x ∷ y ∷ rest) e =
    elim (chosen (eqb x 46) (at_label (y ∷ rest)) at_other at_end e) [
      | inl h ↦ cc
      | inr h ↦ cc
    ]

pub label_behind : (text after : List ℕ) → behind_in text ≡ at_label after
    → (text ≡ codes "." ++ after) × (1 ≤ length after)
label_behind [] after e = cc
label_behind (x ∷ []) after e =
    elim (chosen (eqb x 46) at_end at_other (at_label after) e) [
      | inl h ↦ cc
      | inr h ↦ cc
    ]
label_behind (x ∷ y ∷ rest) after e =
    elim (chosen (eqb x 46) (at_label (y ∷ rest)) at_other (at_label after) e) [
      | inl h ↦
          let same : y ∷ rest ≡ after = cc in
          let dot = eqb-true x 46 h.0 in
          (ap (λ (n : ℕ). n ∷ y ∷ rest) dot ∙ ap (λ (l : List ℕ). 46 ∷ l) same, omega (arith, ap length same))
      | inr h ↦ cc
    ]

dot_behind : (after : List ℕ) → 1 ≤ length after → behind_in (codes "." ++ after) ≡ at_label after
dot_behind [] some = absurd (omega arith)
dot_behind (x ∷ after) some = refl

behind_labels : (text label : List ℕ) (labels : List (List ℕ)) → GoesOn text (label ∷ labels) → IsLabel label
    → (after : List ℕ) × (behind_in text ≡ at_label after)
behind_labels text label labels (after, rest, e, s, goes) one =
    (after, ap behind_in e ∙ dot_behind after (spelled_some after label rest s one.0))

-- where the end is read no label is left, and where something else is read the text is malformed
pub end_alone : (text : List ℕ) (labels : List (List ℕ)) → behind_in text ≡ at_end → GoesOn text labels
    → AllByRecursion IsLabel labels → labels ≡ []
end_alone text [] e goes each = refl
end_alone text (label ∷ labels) e goes each =
    let b = behind_labels text label labels goes each.0 in
    let other = b.1 in
    cc (e, other)

pub other_alone : (text : List ℕ) (labels : List (List ℕ)) → behind_in text ≡ at_other → GoesOn text labels
    → AllByRecursion IsLabel labels → ⊥
other_alone text [] e (inl h) each = let k = ap behind_in h in cc (e, k)
other_alone text [] e (inr h) each = cc (e, ap behind_in h)
other_alone text (label ∷ labels) e goes each =
    let b = behind_labels text label labels goes each.0 in
    let other = b.1 in
    cc (e, other)

-- where the end is read, the octets are those of all labels
pub all_same : (text octets left label rest next first : List ℕ) (labels : List (List ℕ)) → SoFar text octets left
    → Spells left label rest → first_byte rest ≡ None → behind_in rest ≡ at_end → next ≡ octets ++ written label
    → IsNameText text (first ∷ labels) → next ≡ written_all (first ∷ labels)
all_same text octets left label rest next first labels so spells no_more ends e is =
    let n = next_label text octets left first labels so is in
    let one = spelling_one label n.label left rest n.rest spells no_more n.spells n.no_more in
    let none = end_alone n.rest n.more (ap behind_in one.1 ∙ ends) n.goes n.each in
    let all : first ∷ labels ≡ so.done ++ label ∷ [] =
    n.is ∙ (ap (λ (l : List ℕ). so.done ++ l ∷ n.more) one.0
    ∙ ap (λ (ls : List (List ℕ)). so.done ++ label ∷ ls) none) in
    e ∙ (ap (λ (o : List ℕ). o ++ written label) so.written
    ∙ (sym (written_more so.done label) ∙ ap written_all (sym all)))

-- the label that was read is the next one, so there is room for it
pub next_fits : (text octets left label rest first : List ℕ) (labels : List (List ℕ)) → SoFar text octets left
    → Spells left label rest → first_byte rest ≡ None → IsNameText text (first ∷ labels)
    → length octets + length (written label) ≤ 255
next_fits text octets left label rest first labels so spells no_more is =
    let n = next_label text octets left first labels so is in
    let one = spelling_one label n.label left rest n.rest spells no_more n.spells n.no_more in
    omega (arith, n.room, ap length one.0)

pub next_goes : (text octets left label rest first : List ℕ) (labels : List (List ℕ)) → SoFar text octets left
    → Spells left label rest → first_byte rest ≡ None → behind_in rest ≡ at_other → IsNameText text (first ∷ labels)
    → ⊥
next_goes text octets left label rest first labels so spells no_more other is =
    let n = next_label text octets left first labels so is in
    let one = spelling_one label n.label left rest n.rest spells no_more n.spells n.no_more in
    other_alone n.rest n.more (ap behind_in one.1 ∙ other) n.goes n.each

-- a text is not shorter than what follows its characters
pub spelled_shorter : (label text rest : List ℕ) → Spells text label rest → length rest ≤ length text
spelled_shorter [] text rest s = omega (arith, ap length s)
spelled_shorter (b ∷ label) text rest (character, behind, is, whole, s) =
    omega (arith, spelled_shorter label behind rest s, ap length whole, length-append character behind)

-- a dot alone has no labels but those of the root
no_label : {A : Type 0} (first rest : List ℕ) → Spells (codes ".") first rest → IsLabel first → A
no_label [] rest s one = absurd (omega (arith, one.0))
no_label (b ∷ first) rest (character, behind, is, whole, s) one =
    let some = ap first_byte whole ∙ character_first b character behind is in
    cc some

pub root_alone : (labels : List (List ℕ)) → IsNameText (codes ".") labels → labels ≡ []
root_alone [] is = refl
root_alone (first ∷ labels) is =
    no_label first is.is.0 is.is.1 is.name.each.0
