-- Options written one after another, as far as there is room.
use Rattle.dhcp_wire.proofs.Words.{[], ◌&&◌, ◌++◌, ◌+◌, ◌-◌, ◌<◌, ◌↔◌, ◌∙◌, ◌∷◌, ◌≡◌, ◌≤◌, AllShort, Bool, Err, Error}
use Rattle.dhcp_wire.proofs.Words.{IsOk, List, None, Ok, OnErr, OnOk, Option, OptionValue, Result, Slot, Some, Value}
use Rattle.dhcp_wire.proofs.Words.{WritesOptions, ℕ, ap, append-nil, append_assoc, arith, common_steps, cond, drop}
use Rattle.dhcp_wire.proofs.Words.{drop-drop, false, fits, is_ok, length, length-append, length-drop, of_slot, of_slots}
use Rattle.dhcp_wire.proofs.Words.{option, option_text, options_of, options_text, over-fits, progress, refl, slot}
use Rattle.dhcp_wire.proofs.Words.{slots_of, step_all, step_slot, subst, sym, texts_before, true}
use Rattle.std.proofs.lemmas.Bool.Decides.{nat_tests}
use Rattle.dhcp_wire.specs.declared.dhcpv4.options.DhcpOptionWriter.{DhcpOptionWriter}
use Rattle.dhcp_wire.specs.private.Dhcpv4Writing.{Progress, at, fitted, step, slot_step, steps}
use Rattle.dhcp_wire.specs.Dhcpv4Writer.{Fits, IsUnchanged, settled, free}

-- ---- after a refusal

stopped_one : (s f : List ℕ) (o : OptionValue) → step (at s f false) o ≡ at s f false
unfolding step
stopped_one s f o = refl

stopped_at : (s f : List ℕ) (os : List OptionValue) → step_all (at s f false) os ≡ at s f false
unfolding step_all
stopped_at s f [] = refl
stopped_at s f (o ∷ os) = ap (λ (p : Progress). step_all p os) (stopped_one s f o) ∙ stopped_at s f os

pub stopped_all : (w : DhcpOptionWriter) (e : Error) (os : List OptionValue)
    → step_all (progress w (Err e)) os ≡ progress w (Err e)
unfolding progress
stopped_all w e os = stopped_at (settled w) (free w) os

-- ---- one option, and one after another

pub step_all-none : (p : Progress) → step_all p [] ≡ p
unfolding step_all
step_all-none p = refl

pub step_all-more : (p : Progress) (o : OptionValue) (os : List OptionValue)
    → step_all p (o ∷ os) ≡ step_all (step p o) os
unfolding step_all
step_all-more p o os = refl

step_all-append : (p : Progress) (xs ys : List OptionValue) → step_all p (xs ++ ys) ≡ step_all (step_all p xs) ys
unfolding step_all
step_all-append p [] ys = refl
step_all-append p (o ∷ xs) ys = step_all-append (step p o) xs ys

slot-all : (p : Progress) (kind : ℕ) (body : Option (List ℕ)) (os : List OptionValue)
    → step_all p (of_slot kind body os) ≡ step_all (step_slot p (slot kind body)) os
unfolding step_slot step_all
slot-all p kind None os = refl
slot-all p kind (Some body) os = refl

steps-all : (p : Progress) (ss : List Slot) → steps p ss ≡ step_all p (of_slots ss)
steps-all p [] = sym (step_all-none p)
steps-all p (s ∷ ss) = steps-all (step_slot p s) ss ∙ sym (slot-all p s.kind s.body (of_slots ss))

pub fields-then : (p : Progress) (v : Value)
    → step_all p (options_of v) ≡ step_all (steps p (slots_of v)) v.additional_options
fields-then p v = step_all-append p (of_slots (slots_of v)) v.additional_options
    ∙ ap (λ (q : Progress). step_all q v.additional_options) (sym (steps-all p (slots_of v)))

-- a field's option was refused, or all were written
pub fields-refused : (w u : DhcpOptionWriter) (e : Error) (result : Result (Unit {0}) Error) (v : Value)
    → progress u (Err e) ≡ steps (progress w (Ok tt)) (slots_of v) → result ≡ Err e
    → progress u result ≡ step_all (progress w (Ok tt)) (options_of v)
fields-refused w u e result v stopped is =
    ap (λ (r : Result (Unit {0}) Error). progress u r) is ∙ sym (stopped_all u e v.additional_options)
    ∙ ap (λ (p : Progress). step_all p v.additional_options) stopped ∙ sym (fields-then (progress w (Ok tt)) v)

pub fields-written : (w u x : DhcpOptionWriter) (result : Result (Unit {0}) Error) (v : Value)
    → progress u (Ok tt) ≡ steps (progress w (Ok tt)) (slots_of v)
    → progress x result ≡ step_all (progress u (Ok tt)) v.additional_options
    → progress x result ≡ step_all (progress w (Ok tt)) (options_of v)
fields-written w u x result v wrote rest =
    rest ∙ ap (λ (p : Progress). step_all p v.additional_options) wrote ∙ sym (fields-then (progress w (Ok tt)) v)

fits_from : (room : ℕ) (o : OptionValue) → Fits room o → fits room o ≡ true
fits_from room o h = let a = h.0 in let b = h.1 in grind (arith, nat_tests)

fits_means : (room : ℕ) (o : OptionValue) → fits room o ≡ true → Fits room o
fits_means room o h = (grind (arith, nat_tests), grind (arith, nat_tests))

not_true : (b : Bool) → (b ≡ true → ⊥) → b ≡ false
not_true true h = absurd (h refl)
not_true false h = refl

pub emitted : (result : Result (Unit {0}) Error) (s f t g : List ℕ) (o : OptionValue)
    → (IsOk result ↔ Fits (length f) o) → OnOk result (t ≡ s ++ option_text o)
    → OnOk result (g ≡ drop (2 + length o.body) f) → OnErr result ((t ≡ s) × (g ≡ f))
    → at t g (is_ok result) ≡ step (at s f true) o
unfolding step
emitted (Ok x) s f t g o accepts one two refusal =
    let yes : fits (length f) o ≡ true = fits_from (length f) o (accepts.0 refl) in
    ap (λ (l : List ℕ). at l g true) one ∙ ap (λ (l : List ℕ). at (s ++ option_text o) l true) two
    ∙ ap (λ (b : Bool). fitted b (at s f true) o) (sym yes)
emitted (Err e) s f t g o accepts one two refusal =
    let not : fits (length f) o ≡ false = not_true (fits (length f) o) (λ h. let k =
    accepts.1 (fits_means (length f) o h) in cc) in
    ap (λ (l : List ℕ). at l g false) refusal.0 ∙ ap (λ (l : List ℕ). at s l false) refusal.1
    ∙ ap (λ (b : Bool). fitted b (at s f true) o) (sym not)

pub stopped_step : (w : DhcpOptionWriter) (e : Error) (o : OptionValue)
    → step (progress w (Err e)) o ≡ progress w (Err e)
unfolding progress
stopped_step w e o = stopped_one (settled w) (free w) o

pub stopped_slot : (w : DhcpOptionWriter) (e : Error) (s : Slot)
    → step_slot (progress w (Err e)) s ≡ progress w (Err e)
unfolding step_slot
stopped_slot w e s = stopped_body w e s.kind s.body
  where
    stopped_body : (w : DhcpOptionWriter) (e : Error) (kind : ℕ) (body : Option (List ℕ))
        → slot_step (progress w (Err e)) kind body ≡ progress w (Err e)
    stopped_body w e kind None = refl
    stopped_body w e kind (Some d) = stopped_step w e (option kind d)

-- of the options of fields, and of a list of options
pub ruleset slots = (stopped_slot)

pub ruleset emission = (common_steps, stopped_all, step_all-none, step_all-more)

-- a call that writes an option or refuses it
pub emitted_step : (w v : DhcpOptionWriter) (result : Result (Unit {0}) Error) (o : OptionValue)
    → (IsOk result ↔ Fits (length (free w)) o) → OnOk result (settled v ≡ settled w ++ option_text o)
    → OnOk result (free v ≡ drop (2 + length o.body) (free w)) → OnErr result (IsUnchanged w v)
    → progress v result ≡ step (progress w (Ok tt)) o
unfolding progress
emitted_step w v result o accepts one two refusal =
    emitted result (settled w) (free w) (settled v) (free v) o accepts one two refusal

-- ---- all of them, and the end mark

abbrev all_fit : ℕ → List OptionValue → Bool
all_fit room [] = true
all_fit room (o ∷ os) = fits room o && all_fit (room - length (option_text o)) os

record Ran (s f : List ℕ) (os : List OptionValue) (q : Progress) : Type 0 where
  going : q.going ≡ all_fit (length f) os
  settled : q.settled ≡ s ++ texts_before (length f) os
  free : q.free ≡ drop (length (texts_before (length f) os)) f

text-fit : (room : ℕ) (o : OptionValue) (os : List OptionValue) → fits room o ≡ true
    → texts_before room (o ∷ os) ≡ option_text o ++ texts_before (room - length (option_text o)) os
unfolding texts_before
text-fit room o os e = ap (λ (b : Bool). cond b (option_text o ++ texts_before (room - length (option_text o)) os) []) e

text-not : (room : ℕ) (o : OptionValue) (os : List OptionValue) → fits room o ≡ false → texts_before room (o ∷ os) ≡ []
unfolding texts_before
text-not room o os e = ap (λ (b : Bool). cond b (option_text o ++ texts_before (room - length (option_text o)) os) []) e

step-one : (b : Bool) (s f : List ℕ) (o : OptionValue) → fits (length f) o ≡ b
    → step (at s f true) o ≡ fitted b (at s f true) o
unfolding step
step-one b s f o e = ap (λ (v : Bool). fitted v (at s f true) o) e

run_more : (b : Bool) (s f : List ℕ) (o : OptionValue) (os : List OptionValue) → fits (length f) o ≡ b
    → Ran (s ++ option_text o) (drop (2 + length o.body) f) os (step_all (at (s ++ option_text o) (drop
    (2 + length o.body) f) true) os) → Ran s f (o ∷ os) (step_all (at s f true) (o ∷ os))
run_more true s f o os e ih =
    let room : length (drop (2 + length o.body) f) ≡ length f - length (option_text o) = omega (
      arith,
      length-drop (2 + length o.body) f,
    ) in
    let rest : List ℕ = texts_before (length f - length (option_text o)) os in
    let joined : length (option_text o ++ rest) ≡ 2 + length o.body + length rest = omega (
      arith,
      length-append (option_text o) rest,
    ) in
    let goes : step_all (at s f true) (o ∷ os) ≡ step_all (at (s ++ option_text o) (drop
    (2 + length o.body) f) true) os = step_all-more (at s f true) o os
    ∙ ap (λ (p : Progress). step_all p os) (step-one true s f o e) in
    record {
      going = ap (λ (p : Progress). p.going) goes ∙ ih.going ∙ ap (λ (n : ℕ). all_fit n os) room
          ∙ sym (ap (λ (b : Bool). b && all_fit (length f - length (option_text o)) os) e);
      settled = ap (λ (p : Progress). p.settled) goes ∙ ih.settled
          ∙ ap (λ (n : ℕ). (s ++ option_text o) ++ texts_before n os) room ∙ append_assoc s (option_text o) rest
          ∙ ap (λ (l : List ℕ). s ++ l) (sym (text-fit (length f) o os e));
      free = ap (λ (p : Progress). p.free) goes ∙ ih.free
          ∙ ap (λ (n : ℕ). drop (length (texts_before n os)) (drop (2 + length o.body) f)) room
          ∙ drop-drop (length rest) (2 + length o.body) f
          ∙ ap (λ (n : ℕ). drop n f) (sym joined)
          ∙ ap (λ (l : List ℕ). drop (length l) f) (sym (text-fit (length f) o os e));
    }
run_more false s f o os e ih =
    let goes : step_all (at s f true) (o ∷ os) ≡ at s f false = step_all-more (at s f true) o os
    ∙ ap (λ (p : Progress). step_all p os) (step-one false s f o e) ∙ stopped_at s f os in
    record {
      going = ap (λ (p : Progress). p.going) goes
          ∙ sym (ap (λ (b : Bool). b && all_fit (length f - length (option_text o)) os) e);
      settled = ap (λ (p : Progress). p.settled) goes ∙ sym (append-nil s)
          ∙ ap (λ (l : List ℕ). s ++ l) (sym (text-not (length f) o os e));
      free = ap (λ (p : Progress). p.free) goes
          ∙ ap (λ (l : List ℕ). drop (length l) f) (sym (text-not (length f) o os e));
    }

run_none : (s f : List ℕ) → Ran s f [] (step_all (at s f true) [])
unfolding step_all texts_before
run_none s f = record { going = refl; settled = sym (append-nil s); free = refl }

run : (os : List OptionValue) (s f : List ℕ) → Ran s f os (step_all (at s f true) os)
run [] s f = run_none s f
run (o ∷ os) s f = run_more (fits (length f) o) s f o os refl (run os (s ++ option_text o) (drop (2 + length o.body) f))

-- what it means that all fit
before-more : (b : Bool) (room : ℕ) (o : OptionValue) (os : List OptionValue) → fits room o ≡ b
    → length (texts_before (room - length (option_text o)) os) ≤ room - length (option_text o)
    → length (texts_before room (o ∷ os)) ≤ room
before-more true room o os e h =
    let f = fits_means room o e in
    let a = f.1 in
    omega (
      arith,
      ap length (text-fit room o os e),
      length-append (option_text o) (texts_before (room - length (option_text o)) os),
    )
before-more false room o os e h = omega (arith, ap length (text-not room o os e))

before-none : (room : ℕ) → length (texts_before room []) ≤ room
unfolding texts_before
before-none room = omega arith

pub length-before : (os : List OptionValue) (room : ℕ) → length (texts_before room os) ≤ room
length-before [] room = before-none room
length-before (o ∷ os) room = before-more (fits room o) room o os refl (length-before os (room - length
    (option_text o)))

pub both : (a b : Bool) → (a && b) ≡ true → (a ≡ true) × (b ≡ true)
both true b h = (refl, h)
both false b h = absurd (cc)

record AllFit (room : ℕ) (os : List OptionValue) : Type 0 where
  short : AllShort os
  fits : length (options_text os) ≤ room
  texts : texts_before room os ≡ options_text os

all_fit-means : (os : List OptionValue) (room : ℕ) → all_fit room os ≡ true → AllFit room os
unfolding options_text texts_before
all_fit-means [] room h = record { short = tt; fits = omega arith; texts = refl }
all_fit-means (o ∷ os) room h =
    let two = both (fits room o) (all_fit (room - length (option_text o)) os) h in
    let one = fits_means room o two.0 in
    let small = one.1 in
    let e = two.0 in
    let more = all_fit-means os (room - length (option_text o)) two.1 in
    let fewer = more.fits in
    record {
      short = (one.0, more.short);
      fits = omega (arith, length-append (option_text o) (options_text os));
      texts = text-fit room o os e ∙ ap (λ (l : List ℕ). option_text o ++ l) more.texts;
    }

all_fit-from : (os : List OptionValue) (room : ℕ) → AllShort os → length (options_text os) ≤ room
    → all_fit room os ≡ true
unfolding options_text
all_fit-from [] room h l = refl
all_fit-from (o ∷ os) room h l =
    let joined = length-append (option_text o) (options_text os) in
    let e : fits room o ≡ true = fits_from room o (h.0, omega arith) in
    ap (λ (b : Bool). b && all_fit (room - length (option_text o)) os) e
    ∙ all_fit-from os (room - length (option_text o)) h.1 (omega arith)

end_len : (os : List OptionValue) → length (options_text os ++ 255 ∷ []) ≡ length (options_text os) + 1
end_len os = length-append (options_text os) (255 ∷ [])

-- an option was refused
pub refused-options : (os : List OptionValue) (s f old new : List ℕ) (e : Error)
    → at s f false ≡ step_all (at [] old true) os → new ≡ s ++ f → WritesOptions os old (Err e) new
refused-options os s f old new e is left =
    let ran = run os [] old in
    let not : all_fit (length old) os ≡ false = sym ran.going ∙ ap (λ (p : Progress). p.going) (sym is) in
    let one : s ≡ texts_before (length old) os = ap (λ (p : Progress). p.settled) is ∙ ran.settled in
    let two : f ≡ drop (length (texts_before (length old) os)) old = ap (λ (p : Progress). p.free) is ∙ ran.free in
    record {
      accepts = (
        (λ h. absurd (cc)),
        (λ h. let yes = all_fit-from os (length old) h.0 (let l = h.1 in omega (
          arith,
          end_len os,
        )) in absurd (cc)),
      );
      ok = tt;
      refused = left ∙ ap (λ (l : List ℕ). l ++ f) one ∙ ap (λ (l : List ℕ). texts_before (length old) os ++ l) two
          ∙ sym (over-fits old (texts_before (length old) os) (length-before os (length old)));
    }

-- all were written, and the end mark was or was not
pub ended-options : (os : List OptionValue) (s f t g old new : List ℕ) (result : Result (Unit {0}) Error)
    → at s f true ≡ step_all (at [] old true) os
    → (IsOk result ↔ (0 < length f)) → OnOk result (t ≡ s ++ 255 ∷ drop 1 f) → OnOk result (g ≡ [])
    → OnErr result ((t ≡ s) × (g ≡ f)) → new ≡ t ++ g → WritesOptions os old result new
ended-options os s f t g old new (Ok x) is room one two refusal left =
    let ran = run os [] old in
    let yes : all_fit (length old) os ≡ true = sym ran.going ∙ ap (λ (p : Progress). p.going) (sym is) in
    let all = all_fit-means os (length old) yes in
    let first : s ≡ options_text os = ap (λ (p : Progress). p.settled) is ∙ ran.settled ∙ all.texts in
    let last : f ≡ drop (length (options_text os)) old = ap (λ (p : Progress). p.free) is ∙ ran.free
    ∙ ap (λ (l : List ℕ). drop (length l) old) all.texts in
    let some : 0 < length f = room.0 refl in
    let more : drop 1 f ≡ drop (length (options_text os ++ 255 ∷ [])) old = ap (λ (l : List ℕ). drop 1 l) last
    ∙ drop-drop 1 (length (options_text os)) old ∙ ap (λ (n : ℕ). drop n old) (omega (arith, end_len os)) in
    let fit = all.fits in
    record {
      accepts = (
        (λ h. (
          all.short,
          omega (
            arith,
            end_len os,
            ap length last,
            length-drop (length (options_text os)) old,
          ),
        )),
        (λ h. refl),
      );
      ok = left ∙ ap (λ (l : List ℕ). t ++ l) two ∙ append-nil t ∙ one
          ∙ ap (λ (l : List ℕ). l ++ 255 ∷ drop 1 f) first ∙ ap (λ (l : List ℕ). options_text os ++ 255 ∷ l) more
          ∙ sym (append_assoc (options_text os) (255 ∷ []) _)
          ∙ sym (over-fits old (options_text os ++ 255 ∷ []) (omega (
            arith,
            end_len os,
            ap length last,
            length-drop (length (options_text os)) old,
          )));
      refused = tt;
    }
ended-options os s f t g old new (Err e) is room one two refusal left =
    let ran = run os [] old in
    let yes : all_fit (length old) os ≡ true = sym ran.going ∙ ap (λ (p : Progress). p.going) (sym is) in
    let all = all_fit-means os (length old) yes in
    let first : s ≡ texts_before (length old) os = ap (λ (p : Progress). p.settled) is ∙ ran.settled in
    let last : f ≡ drop (length (texts_before (length old) os)) old = ap (λ (p : Progress). p.free) is ∙ ran.free in
    record {
      accepts = (
        (λ h. absurd (cc)),
        (λ h. let l = h.1 in let some = room.1 (omega (
          arith,
          end_len os,
          ap length last,
          ap length all.texts,
          length-drop (length (texts_before (length old) os)) old,
        )) in some),
      );
      ok = tt;
      refused = left ∙ ap (λ (l : List ℕ). l ++ g) (refusal.0 ∙ first)
          ∙ ap (λ (l : List ℕ). texts_before (length old) os ++ l) (refusal.1 ∙ last)
          ∙ sym (over-fits old (texts_before (length old) os) (length-before os (length old)));
    }

-- ---- a writer that is done with

from_start : (os : List OptionValue) (w : DhcpOptionWriter) (old : List ℕ) → settled w ≡ [] → free w ≡ old
    → step_all (progress w (Ok tt)) os ≡ step_all (at [] old true) os
unfolding progress
from_start os w old none all =
    ap (λ (l : List ℕ). step_all (at l (free w) true) os) none ∙ ap (λ (l : List ℕ). step_all (at [] l true) os) all

-- where an option was refused
pub writes-refused : (os : List OptionValue) (w v : DhcpOptionWriter) (old new : List ℕ) (e : Error)
    (result : Result (Unit {0}) Error)
    → settled w ≡ [] → free w ≡ old → progress v (Err e) ≡ step_all (progress w (Ok tt)) os → result ≡ Err e
    → new ≡ settled v ++ free v → WritesOptions os old result new
unfolding progress
writes-refused os w v old new e result none all is failed left =
    subst (λ (r : Result (Unit {0}) Error). WritesOptions os old r new) (sym failed) (refused-options os (settled v)
    (free v) old new e (is ∙ from_start os w old none all) left)

-- where all were written
pub writes-ended : (os : List OptionValue) (w v u : DhcpOptionWriter) (old new : List ℕ)
    (result : Result (Unit {0}) Error)
    → settled w ≡ [] → free w ≡ old → progress v (Ok tt) ≡ step_all (progress w (Ok tt)) os
    → (IsOk result ↔ (0 < length (free v))) → OnOk result (settled u ≡ settled v ++ 255 ∷ drop 1 (free v))
    → OnOk result (free u ≡ [])
    → OnErr result (IsUnchanged v u) → new ≡ settled u ++ free u → WritesOptions os old result new
unfolding progress
writes-ended os w v u old new result none all is room one two refusal left =
    ended-options os (settled v) (free v) (settled u) (free u) old new result (is ∙ from_start os w old none all) room
    one two refusal left
