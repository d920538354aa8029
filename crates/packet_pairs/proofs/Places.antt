-- Questions at their places.
use Rattle.std.proofs.Common.{◌≡◌, ◌≢◌, ◌+◌, ◌≤◌, ◌<◌, ◌++◌, ◌∙◌, [], ◌∷◌, Bool, Err, IfOk, List, None, Ok, OnOk}
use Rattle.std.proofs.Common.{Option, Result, Some}
use Rattle.std.proofs.Common.{ap, arith, drop, get_or, if◌then◌else◌, length, map, refl, set, subst, suc, sym, take}
use Rattle.std.proofs.Common.{true, ℕ}
use Rattle.std.proofs.lemmas.List.{drop-map, length-map, length-take, map-append, map-set, map_more, set-get_or}
use Rattle.std.proofs.lemmas.List.{set_split}
use Rattle.std.proofs.lemmas.List.{take-map}
use Rattle.std.proofs.Math.ListN.{get_or-map}
use Rattle.std.specs.List.{remove}
use Rattle.packet_pairs.specs.Exchange.{answering, asking}
use Rattle.packet_pairs.specs.Key.{KeyValue, key_of}
use Rattle.packet_pairs.specs.Pairs.{AskedValue, IsUnknown, Sees, State, answers, asked_again, asked_of, first_asked}
use Rattle.packet_pairs.specs.Pairs.{goes_to_many, most_answered, most_waiting, one_more, remembered}
use Rattle.packet_pairs.specs.Pairs as pairs
use Rattle.packet_pairs.specs.Types.{Answered, Asked, Fault, Role}
use Rattle.packet_pairs.specs.private.Places.{IsFoundAt}

-- ---- the first with a key

unknown-push : (key : KeyValue) (qs : List AskedValue) (q : AskedValue) → IsUnknown key qs → q.key ≢ key
    → IsUnknown key (qs ++ (q ∷ []))
unknown-push key [] q h other = (other, tt)
unknown-push key (x ∷ xs) q h other = (h.0, unknown-push key xs q h.1 other)

pub unknown_more : (key : KeyValue) (items : List Asked) (i : ℕ) (x : Asked) → i < length items → x ≡ get_or items i x
    → key_of x.key ≢ key → IsUnknown key (map asked_of (take i items))
    → IsUnknown key (map asked_of (take (i + 1) items))
unknown_more key items i x within at other so =
    subst (IsUnknown key)
    (sym (map_more asked_of items i x within
    ∙ ap (λ (y : Asked). map asked_of (take i items) ++ (asked_of y ∷ [])) (sym at)))
    (unknown-push key (map asked_of (take i items)) (asked_of x) so other)

pub found_at : (key : KeyValue) (items : List Asked) (i : ℕ) (x : Asked) → i < length items → x ≡ get_or items i x
    → key_of x.key ≡ key → IsUnknown key (map asked_of (take i items)) → IsFoundAt key (map asked_of items) i
found_at key items i x within at same so = record {
  before = map asked_of (take i items);
  q = asked_of x;
  behind = map asked_of (drop (suc i) items);
  parts =
      ap (map asked_of) (sym (set-get_or items i x) ∙ ap (set items i) (sym at) ∙ set_split items i x within)
      ∙ map-append asked_of (take i items) (x ∷ drop (suc i) items);
  place_is = omega (arith, length-map (take i items) asked_of, length-take i items, within);
  unknown = so;
  same = same;
}

-- it is known then
pub known_between : (key : KeyValue) (before behind : List AskedValue) (q : AskedValue) → q.key ≡ key
    → IsUnknown key (before ++ (q ∷ behind)) → ⊥
known_between key [] behind q same u = u.0 same
known_between key (x ∷ before) behind q same u = known_between key before behind q same u.1

pub found_known : (key : KeyValue) (qs : List AskedValue) (place : ℕ) → IsFoundAt key qs place → IsUnknown key qs → ⊥
found_known key qs place f u = known_between key f.before f.behind f.q f.same (subst (IsUnknown key) f.parts u)

-- ---- one more

record HasFirst (qs : List AskedValue) : Type 0 where
  first : AskedValue
  rest : List AskedValue
  is : qs ≡ first ∷ rest

has_first : (qs : List AskedValue) → 0 < length qs → HasFirst qs
has_first [] some = absurd (omega (arith, some))
has_first (q ∷ qs) some = record { first = q; rest = qs; is = refl }

-- the first of those that wait makes room
pub begins_with_drop : (r : Result (Option Answered) Fault) (old between new : State) (number : ℕ) (time : Option ℕ)
    (key : KeyValue) → IsUnknown key old.waiting → most_waiting ≤ length old.waiting
    → between ≡ record old { waiting = drop 1 old.waiting; dropped = one_more old.dropped }
    → IfOk r (λ answer. answer ≡ None)
    → OnOk r (new ≡ record between { waiting = between.waiting ++ (first_asked number time key ∷ []) })
    → IfOk r (λ answer. Sees old number time (asking key) answer new)
begins_with_drop (Err fault) old between new number time key unknown many e none f = tt
begins_with_drop (Ok answer) old between new number time key unknown many e none f =
    let h = has_first old.waiting (omega (arith, many)) in
    pairs.drops h.first h.rest refl unknown many h.is none
    (f
    ∙ ap (λ (s : State). record s { waiting = s.waiting ++ (first_asked number time key ∷ []) }) e
    ∙ ap (λ (qs : List AskedValue). record old {
      waiting = drop 1 qs ++ (first_asked number time key ∷ []);
      dropped = one_more old.dropped;
    }) h.is)

-- one more is remembered
pub remembers : (q : Asked) (items pushed kept : List Asked) → goes_to_many (key_of q.key) ≡ true → pushed ≡ q ∷ items
    → kept ≡ take most_answered pushed → map asked_of kept ≡ remembered (asked_of q) (map asked_of items)
remembers q items pushed kept many e f =
    ap (map asked_of) (f ∙ ap (take most_answered) e) ∙ sym (take-map asked_of most_answered (q ∷ items))
    ∙ ap (λ (b : Bool).
    if b then take most_answered (asked_of q ∷ map asked_of items) else map asked_of items) (sym many)

-- ---- a list around an element

get_middle : {X : Type 0} (before : List X) (x : X) (behind : List X) (d : X)
    → get_or (before ++ (x ∷ behind)) (length before) d ≡ x
get_middle [] x behind d = refl
get_middle (y ∷ before) x behind d = get_middle before x behind d

set_middle : {X : Type 0} (before : List X) (x : X) (behind : List X) (other : X)
    → set (before ++ (x ∷ behind)) (length before) other ≡ before ++ (other ∷ behind)
set_middle [] x behind other = refl
set_middle (y ∷ before) x behind other = ap (λ l. y ∷ l) (set_middle before x behind other)

take_middle : {X : Type 0} (before behind : List X) → take (length before) (before ++ behind) ≡ before
take_middle [] behind = refl
take_middle (y ∷ before) behind = ap (λ l. y ∷ l) (take_middle before behind)

drop_middle : {X : Type 0} (before : List X) (x : X) (behind : List X)
    → drop (suc (length before)) (before ++ (x ∷ behind)) ≡ behind
drop_middle [] x behind = refl
drop_middle (y ∷ before) x behind = drop_middle before x behind

-- ---- the question that is found

q_at : (key : KeyValue) (items : List Asked) (place : ℕ) (x : Asked) (f : IsFoundAt key (map asked_of items) place)
    → x ≡ get_or items place x → asked_of x ≡ f.q
q_at key items place x f at =
    ap asked_of at ∙ sym (get_or-map asked_of items place x)
    ∙ ap (λ (l : List AskedValue). get_or l place (asked_of x)) f.parts
    ∙ ap (λ (i : ℕ). get_or (f.before ++ (f.q ∷ f.behind)) i (asked_of x)) f.place_is
    ∙ get_middle f.before f.q f.behind (asked_of x)

-- it is asked again
pub asks_more : (old : State) (number : ℕ) (time : Option ℕ) (key : KeyValue) (items : List Asked) (place : ℕ)
    (x other : Asked) → old.waiting ≡ map asked_of items → IsFoundAt key (map asked_of items) place
    → x ≡ get_or items place x → asked_of other ≡ asked_again (asked_of x)
    → Sees old number time (asking key) None (record old { waiting = map asked_of (set items place other) })
asks_more old number time key items place x other e f at again =
    pairs.asks_again f.before f.behind f.q refl (e ∙ f.parts) f.unknown f.same refl
    (ap (λ (qs : List AskedValue). record old { waiting = qs })
    (map-set asked_of items place other ∙ ap (λ (l : List AskedValue). set l place (asked_of other)) f.parts
    ∙ ap (λ (i : ℕ). set (f.before ++ (f.q ∷ f.behind)) i (asked_of other)) f.place_is
    ∙ set_middle f.before f.q f.behind (asked_of other)
    ∙ ap (λ (q : AskedValue). f.before ++ (q ∷ f.behind)) (again ∙ ap asked_again (q_at key items place x f at))))

-- it is answered
left_behind : (key : KeyValue) (items : List Asked) (place : ℕ) (f : IsFoundAt key (map asked_of items) place)
    → map asked_of (remove items place) ≡ f.before ++ f.behind
left_behind key items place f =
    map-append asked_of (take place items) (drop (suc place) items)
    ∙ ap (λ (l : List AskedValue). l ++ map asked_of (drop (suc place) items)) (sym (take-map asked_of place items))
    ∙ ap (λ (l : List AskedValue). take place (map asked_of items) ++ l) (sym (drop-map asked_of (suc place) items))
    ∙ ap (λ (l : List AskedValue). take place l ++ drop (suc place) l) f.parts
    ∙ ap (λ (i : ℕ). take i (f.before ++ (f.q ∷ f.behind)) ++ drop (suc i) (f.before ++ (f.q ∷ f.behind))) f.place_is
    ∙ ap (λ (l : List AskedValue). l ++ drop (suc (length f.before)) (f.before ++ (f.q ∷ f.behind)))
    (take_middle f.before (f.q ∷ f.behind))
    ∙ ap (λ (l : List AskedValue). f.before ++ l) (drop_middle f.before f.q f.behind)

pub answers_it : (old new : State) (number : ℕ) (time : Option ℕ) (key : KeyValue) (items left : List Asked) (place : ℕ)
    (x : Asked) (a : Answered) → old.waiting ≡ map asked_of items → IsFoundAt key (map asked_of items) place
    → x ≡ get_or items place x → left ≡ remove items place → a ≡ answers (asked_of x) time
    → new ≡ record old { waiting = map asked_of left; answered = remembered (asked_of x) old.answered }
    → Sees old number time (answering key) (Some a) new
answers_it old new number time key items left place x a e f at gone told n =
    let q = q_at key items place x f at in
    pairs.answers_one f.before f.behind f.q refl (e ∙ f.parts) f.unknown f.same
    (ap Some (told ∙ ap (λ (y : AskedValue). answers y time) q))
    (n
    ∙ ap (λ (l : List AskedValue). record old { waiting = l; answered = remembered (asked_of x) old.answered })
    (ap (map asked_of) gone ∙ left_behind key items place f)
    ∙ ap (λ (y : AskedValue). record old {
      waiting = f.before ++ f.behind;
      answered = remembered y old.answered;
    }) q)

pub answers_it_too : (old : State) (number : ℕ) (time : Option ℕ) (key : KeyValue) (items : List Asked) (place : ℕ)
    (x : Asked) (a : Answered) → old.answered ≡ map asked_of items → IsUnknown key old.waiting
    → IsFoundAt key (map asked_of items) place → x ≡ get_or items place x → a ≡ answers (asked_of x) time
    → Sees old number time (answering key) (Some a) old
answers_it_too old number time key items place x a e unknown f at told =
    pairs.answers_too f.before f.behind f.q refl unknown (e ∙ f.parts) f.unknown f.same
    (ap Some (told ∙ ap (λ (y : AskedValue). answers y time) (q_at key items place x f at))) refl

-- ---- a message that answers

pub sees_answer : (r : Result (Option Answered) Fault) (old new : State) (number : ℕ) (time : Option ℕ) (role : Role)
    (key : KeyValue) → role ≡ Role.Answers
    → IfOk r (λ answer. (n : ℕ) → Sees old n time (answering key) answer new)
    → IfOk r (λ answer. Sees old number time (record { role = role; key = key }) answer new)
sees_answer (Ok answer) old new number time role key e h =
    subst (λ (x : Role). Sees old number time (record { role = x; key = key }) answer new) (sym e) (h number)
sees_answer (Err fault) old new number time role key e h = tt
