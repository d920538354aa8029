-- What an output gains where a packet is printed.
use Rattle.std.proofs.Common.{◌≡◌, ◌∙◌, ◌<◌, ◌^◌, [], sym, ◌++◌, Bool, Err, IfOk, List, Ok, OnOk, Option, Result}
use Rattle.std.proofs.Common.{append_assoc, codes, refl, subst, true, ℕ}
use Rattle.std.proofs.lemmas.Grind.{flat_map-append}
use Rattle.packet_fields.specs.Fields.{Item, number}
unfoldable use Rattle.packet_fields.specs.Fields.{items_text}
unfoldable use Rattle.packet_fields.specs.Json.{object_text}
use Rattle.packet_fields.specs.Output.{Gains, GainsSome}
use Rattle.packet_fields.specs.Prints.{Prints}
use Rattle.packet_fields.specs.declared.form.Form.{Form}
use Rattle.packet_fields.specs.declared.form.Form.TheVariants.{Json, Lines}
use Rattle.packet_fields.proofs.Fields.{fit_both, prints_both}
use Rattle.packet_fields.proofs.Printing.{◌then◌, gains_both}
use Rattle.packet_pairs.specs.declared.pairs.Answered.{Answered}
use Rattle.dump_captures.specs.Arrival.{ArrivalValue}
use Rattle.dump_captures.specs.Color.{before_text, behind_text, painted}
use Rattle.dump_captures.specs.Dump.{LengthyPrints, PrintsUnless}
use Rattle.dump_captures.specs.Heading.{head_items, heading}
use Rattle.dump_captures.specs.Messages.{ListingIs}
use Rattle.dump_captures.specs.Pairing.{answer_items}
use Rattle.dump_captures.specs.Sight.{HeadersValue}
use Rattle.dump_captures.specs.declared.kind.Reason.{Reason}
use Rattle.dump_captures.specs.declared.options.Options.{Options}
use Rattle.dump_captures.specs.private.Objects.{object_front}

-- a fact that holds of a result that is no fault implies another fact of it
pub if_ok : {A E : Type 0} (Holds Other : A → Type 0) (r : Result A E) → ((answer : A) → Holds answer → Other answer)
    → IfOk r Holds → IfOk r Other
if_ok Holds Other (Ok answer) other holds = other answer holds
if_ok Holds Other (Err e) other holds = tt

-- what is printed of a packet goes with what it answers
pub with_answer : (Prints : Option Answered → List ℕ → Type 0) (Is : Option Answered → Type 0)
    (t u : Option (List ℕ)) (answer : Option Answered) → Is answer → GainsSome t u (Prints answer)
    → GainsSome t u (λ shown. (other : Option Answered) × Is other × Prints other shown)
with_answer Prints Is t u answer is (shown, prints, gains) = (shown, (answer, is, prints), gains)

-- a text of a kind behind a front, which together are of another kind
pub gains_some : {E : Type 0} (IsText IsOther : List ℕ → Type 0) (a b c : Option (List ℕ)) (front : List ℕ)
    (r : Result (Unit {0}) E) → Gains a b front → ((text : List ℕ) → IsText text → IsOther (front ++ text))
    → OnOk r (GainsSome b c IsText) → OnOk r (GainsSome a c IsOther)
gains_some IsText IsOther a b c front (Ok x) first other (text, is, gains) =
    (front ++ text, other text is, gains_both a b c front text first gains)
gains_some IsText IsOther a b c front (Err e) first other gains = tt

line_is : (begin front told answer behind end : List ℕ)
    → ((((begin ++ front) ++ told) ++ answer) ++ behind) ++ end ≡ (begin ++ (front ++ told ++ answer) ++ behind) ++ end
line_is begin front told answer behind end = simp (append_assoc)

-- a line of three parts, which may be colored, and its end
pub colored_line : (is_colored : Bool) (begin front told answer end : List ℕ) (a b c d e f g : Option (List ℕ))
    → Gains a b (before_text is_colored begin) → Gains b c front → Gains c d told → Gains d e answer
    → Gains e f (behind_text is_colored) → Gains f g end
    → Gains a g (painted is_colored begin (front ++ told ++ answer) ++ end)
colored_line is_colored begin front told answer end a b c d e f g first second third fourth fifth last =
    subst (Gains a g)
    (line_is (before_text is_colored begin) front told answer (behind_text is_colored) end)
    (first then second then third then fourth then fifth then last)

-- items behind a front
pub gains_items : {E : Type 0} (a b c : Option (List ℕ)) (front : List ℕ) (form : Form) (items : List Item)
    (r : Result (Unit {0}) E) → Gains a b front → OnOk r (Prints form b c items)
    → OnOk r (Gains a c (front ++ items_text form items))
gains_items a b c front form items (Ok x) first printed =
    gains_both a b c front (items_text form items) first printed.gains
gains_items a b c front form items (Err e) first printed = tt

module _ (options : Options) (a : ArrivalValue) (h : HeadersValue) (items : List Item) (why : Option Reason)
    (answer : Option Answered) (listed : ListingIs options h items why) where
  -- a packet in lines
  pub lines_printed : (t u v w : Option (List ℕ)) → options.form ≡ Lines → Gains t u (heading options a h)
      → Prints options.form u v items → Prints Lines v w (answer_items Lines answer)
      → GainsSome t w (LengthyPrints options a h why answer)
  lines_printed t u v w form first printed answered =
      let all = items ++ answer_items Lines answer in
      let both = prints_both Lines u v w items (answer_items Lines answer) (rw form at printed) answered in (
        heading options a h ++ items_text Lines all,
        record {
          items = items;
          is = listed;
          fits = λ json. absurd (cc (sym form ∙ json));
          text_is = rw form refl;
        },
        gains_both t u w (heading options a h) (items_text Lines all) first both.gains,
      )

  object_is : (head more : List Item)
      → ((object_front (codes "number") (number a.number) ++ items_text Json head) ++ items_text Json more)
      ++ codes "}\n"
      ≡ object_text (codes "number") (number a.number) (head ++ more) ++ codes "\n"
  unfolding object_text items_text
  object_is head more = simp (append_assoc, flat_map-append)

  -- a packet as an object
  pub object_printed : a.number < 2 ^ 64 → (t u v w x y : Option (List ℕ)) → options.form ≡ Json
      → Gains t u (object_front (codes "number") (number a.number)) → Prints Json u v (head_items a h)
      → Prints options.form v w items → Prints Json w x (answer_items Json answer) → Gains x y (codes "}\n")
      → GainsSome t y (LengthyPrints options a h why answer)
  object_printed fits t u v w x y form front head printed answered end =
      let more = items ++ answer_items Json answer in
      let both = prints_both Json v w x items (answer_items Json answer) (rw form at printed) answered in
      let all = (front then head.gains) then both.gains then end in (
        object_text (codes "number") (number a.number) (head_items a h ++ more) ++ codes "\n",
        record {
          items = items;
          is = listed;
          fits = λ json. (fits, fit_both (head_items a h) more head.fit both.fit);
          text_is = rw form refl;
        },
        subst (Gains t y) (object_is (head_items a h) more) all,
      )

  -- a packet that is left out
  pub left_out : (is_left_out : Bool) → is_left_out ≡ true → PrintsUnless is_left_out options a h why answer []
  left_out is_left_out is = subst (λ left. PrintsUnless left options a h why answer []) (sym is) (items, listed, refl)
