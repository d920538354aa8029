-- A question waits until its answer comes.
use Rattle.std.proofs.Common.{◌≡◌, ◌≢◌, ◌+◌, ◌≤◌, ◌<◌, ◌++◌, ◌∙◌, [], ◌∷◌, ◌⊎◌, List, Option, Some, ap, arith}
use Rattle.std.proofs.Common.{inl, inr, length, length-append, refl, subst, sym, ℕ}
use Rattle.packet_pairs.specs.Exchange.{ExchangeValue, answering, asking}
use Rattle.packet_pairs.specs.Key.{KeyValue}
use Rattle.packet_pairs.specs.Pairs.{AskedValue, IsUnknown, Sees, State, answers, answers_none, answers_one}
use Rattle.packet_pairs.specs.Pairs.{answers_too}
use Rattle.packet_pairs.specs.Pairs.{asked_again, asks, asks_again, drops, first_asked, most_waiting}
use Rattle.packet_pairs.specs.Pairs.{nanoseconds_between}
use Rattle.packet_pairs.specs.Runs.{NoneAnswers, PairsUp, Runs, Seen, questions_in, questions_of}
use Rattle.packet_pairs.specs.Types.{Answered, Role}
use Rattle.packet_pairs.proofs.Places.{known_between}

-- the first question with a key has this number and time, and at most n others stand behind it
abbrev Waits : KeyValue → ℕ → Option ℕ → ℕ → List AskedValue → Type 0
Waits key number time n [] = ⊥
Waits key number time n (q ∷ qs) =
    ((q.key ≡ key) × (q.number ≡ number) × (q.time ≡ time) × (length qs ≤ n))
    ⊎ ((q.key ≢ key) × Waits key number time n qs)

-- ---- it begins to wait, and is known then

begins : (key : KeyValue) (number : ℕ) (time : Option ℕ) (qs : List AskedValue) → IsUnknown key qs
    → Waits key number time 0 (qs ++ (first_asked number time key ∷ []))
begins key number time [] u = inl (refl, refl, refl, omega arith)
begins key number time (q ∷ qs) u = inr (u.0, begins key number time qs u.1)

is_known : (key : KeyValue) (number : ℕ) (time : Option ℕ) (n : ℕ) (qs : List AskedValue) → Waits key number time n qs
    → IsUnknown key qs → ⊥
is_known key number time n [] w u = w
is_known key number time n (q ∷ qs) (inl h) u = u.0 h.0
is_known key number time n (q ∷ qs) (inr h) u = is_known key number time n qs h.1 u.1

-- ---- what others do

pushed : (key : KeyValue) (number : ℕ) (time : Option ℕ) (n : ℕ) (qs : List AskedValue) (x : AskedValue)
    → Waits key number time n qs → Waits key number time (n + 1) (qs ++ (x ∷ []))
pushed key number time n [] x w = absurd w
pushed key number time n (q ∷ qs) x (inl (k, a, t, l)) =
    inl (k, a, t, omega (arith, length-append qs (x ∷ []), l))
pushed key number time n (q ∷ qs) x (inr (o, w)) = inr (o, pushed key number time n qs x w)

dropped : (key : KeyValue) (number : ℕ) (time : Option ℕ) (n : ℕ) (first : AskedValue) (rest : List AskedValue)
    → n < length rest → Waits key number time n (first ∷ rest) → Waits key number time n rest
dropped key number time n first rest few (inl (k, a, t, l)) = absurd (omega (arith, few, l))
dropped key number time n first rest few (inr (o, w)) = w

removed : (key : KeyValue) (number : ℕ) (time : Option ℕ) (n : ℕ) (before behind : List AskedValue) (x : AskedValue)
    → x.key ≢ key → Waits key number time n (before ++ (x ∷ behind)) → Waits key number time n (before ++ behind)
removed key number time n [] behind x other (inl (k, a, t, l)) = absurd (other k)
removed key number time n [] behind x other (inr (o, w)) = w
removed key number time n (y ∷ before) behind x other (inl (k, a, t, l)) =
    inl (k, a, t, omega (arith, length-append before (x ∷ behind), length-append before behind, l))
removed key number time n (y ∷ before) behind x other (inr (o, w)) =
    inr (o, removed key number time n before behind x other w)

repeated : (key : KeyValue) (number : ℕ) (time : Option ℕ) (n : ℕ) (before behind : List AskedValue) (x : AskedValue)
    → Waits key number time n (before ++ (x ∷ behind)) → Waits key number time n (before ++ (asked_again x ∷ behind))
repeated key number time n [] behind x (inl (k, a, t, l)) = inl (k, a, t, l)
repeated key number time n [] behind x (inr (o, w)) = inr (o, w)
repeated key number time n (y ∷ before) behind x (inl (k, a, t, l)) =
    inl (k, a, t, omega (arith, length-append before (x ∷ behind), length-append before (asked_again x ∷ behind), l))
repeated key number time n (y ∷ before) behind x (inr (o, w)) =
    inr (o, repeated key number time n before behind x w)

longer : (key : KeyValue) (number : ℕ) (time : Option ℕ) (n other : ℕ) (qs : List AskedValue) → n ≤ other
    → Waits key number time n qs → Waits key number time other qs
longer key number time n other [] le w = w
longer key number time n other (q ∷ qs) le (inl (k, a, t, l)) = inl (k, a, t, omega (arith, l, le))
longer key number time n other (q ∷ qs) le (inr (o, w)) = inr (o, longer key number time n other qs le w)

other_key : (key : KeyValue) (e : ExchangeValue) (x : AskedValue) → e ≢ answering key → e.role ≡ Role.Answers
    → x.key ≡ e.key → x.key ≢ key
other_key key e x not_it r same k =
    not_it (ap (λ (role : Role). record { role = role; key = e.key }) r ∙ ap answering (sym same ∙ k))

-- one message
goes_on : (key : KeyValue) (number : ℕ) (time : Option ℕ) (n : ℕ) (old new : State) (m : Seen)
    (answer : Option Answered) → m.exchange ≢ answering key → n + questions_of m.exchange.role < most_waiting
    → Waits key number time n old.waiting → Sees old m.number m.time m.exchange answer new
    → Waits key number time (n + questions_of m.exchange.role) new.waiting
goes_on key number time n old new m answer not_it few w (asks r u room a e) =
    subst (λ (role : Role). Waits key number time (n + questions_of role) new.waiting) (sym r)
    (subst (λ (s : State). Waits key number time (n + 1) s.waiting) (sym e)
    (pushed key number time n old.waiting (first_asked m.number m.time m.exchange.key) w))
goes_on key number time n old new m answer not_it few w (drops first rest r u many o a e) =
    let one = ap questions_of r in
    subst (λ (role : Role). Waits key number time (n + questions_of role) new.waiting) (sym r)
    (subst (λ (s : State). Waits key number time (n + 1) s.waiting) (sym e)
    (pushed key number time n rest (first_asked m.number m.time m.exchange.key)
    (dropped key number time n first rest (omega (arith, ap length o, many, one, few))
    (subst (Waits key number time n) o w))))
goes_on key number time n old new m answer not_it few w (asks_again before behind q r o u s a e) =
    longer key number time n (n + questions_of m.exchange.role) new.waiting (omega arith)
    (subst (λ (t : State). Waits key number time n t.waiting) (sym e)
    (repeated key number time n before behind q (subst (Waits key number time n) o w)))
goes_on key number time n old new m answer not_it few w (answers_one before behind q r o u s a e) =
    longer key number time n (n + questions_of m.exchange.role) new.waiting (omega arith)
    (subst (λ (t : State). Waits key number time n t.waiting) (sym e)
    (removed key number time n before behind q (other_key key m.exchange q not_it r s)
    (subst (Waits key number time n) o w)))
goes_on key number time n old new m answer not_it few w (answers_too before behind q r v o u s a e) =
    longer key number time n (n + questions_of m.exchange.role) new.waiting (omega arith)
    (subst (λ (t : State). Waits key number time n t.waiting) (sym e) w)
goes_on key number time n old new m answer not_it few w (answers_none r u v a e) =
    longer key number time n (n + questions_of m.exchange.role) new.waiting (omega arith)
    (subst (λ (t : State). Waits key number time n t.waiting) (sym e) w)

all_go_on : (key : KeyValue) (number : ℕ) (time : Option ℕ) (n : ℕ) (old new : State) (ms : List Seen)
    → NoneAnswers key ms → n + questions_in ms < most_waiting → Waits key number time n old.waiting → Runs old ms new
    → Waits key number time (n + questions_in ms) new.waiting
all_go_on key number time n old new [] others few w same =
    subst (λ (s : State). Waits key number time (n + 0) s.waiting) (sym same)
    (longer key number time n (n + 0) old.waiting (omega arith) w)
all_go_on key number time n old new (m ∷ ms) others few w (next, answer, sees, runs) =
    subst (λ (k : ℕ). Waits key number time k new.waiting) (omega arith)
    (all_go_on key number time (n + questions_of m.exchange.role) next new ms others.1 (omega (arith, few))
    (goes_on key number time n old next m answer others.0 (omega (arith, few)) w sees) runs)

-- ---- the answer

is_it : (key : KeyValue) (number : ℕ) (time later : Option ℕ) (n : ℕ) (before behind : List AskedValue)
    (q : AskedValue) → IsUnknown key before → q.key ≡ key → Waits key number time n (before ++ (q ∷ behind))
    → answers q later ≡ record { number = number; after = nanoseconds_between time later }
is_it key number time later n [] behind q u same (inl (k, a, t, l)) =
    ap (λ (i : ℕ). record { number = i; after = nanoseconds_between q.time later }) a
    ∙ ap (λ (x : Option ℕ). record { number = number; after = nanoseconds_between x later }) t
is_it key number time later n [] behind q u same (inr (o, w)) = absurd (o same)
is_it key number time later n (y ∷ before) behind q u same (inl (k, a, t, l)) = absurd (u.0 k)
is_it key number time later n (y ∷ before) behind q u same (inr (o, w)) =
    is_it key number time later n before behind q u.1 same w

answered : (key : KeyValue) (number : ℕ) (time : Option ℕ) (n : ℕ) (old new : State) (last : ℕ)
    (later : Option ℕ) (answer : Option Answered) → Waits key number time n old.waiting
    → Sees old last later (answering key) answer new
    → answer ≡ Some (record { number = number; after = nanoseconds_between time later })
answered key number time n old new last later answer w (asks r u room a e) = absurd (cc r)
answered key number time n old new last later answer w (drops first rest r u many o a e) = absurd (cc r)
answered key number time n old new last later answer w (asks_again before behind q r o u s a e) = absurd (cc r)
answered key number time n old new last later answer w (answers_one before behind q r o u s a e) =
    a
    ∙ ap Some (is_it key number time later n before behind q u s (subst (Waits key number time n) o w))
answered key number time n old new last later answer w (answers_too before behind q r v o u s a e) =
    absurd (is_known key number time n old.waiting w v)
answered key number time n old new last later answer w (answers_none r u v a e) =
    absurd (is_known key number time n old.waiting w u)

-- the question
asked : (key : KeyValue) (number : ℕ) (time : Option ℕ) (old new : State) (told : Option Answered)
    → IsUnknown key old.waiting → Sees old number time (asking key) told new → Waits key number time 0 new.waiting
asked key number time old new told unknown (asks r u room a e) =
    subst (λ (s : State). Waits key number time 0 s.waiting) (sym e) (begins key number time old.waiting u)
asked key number time old new told unknown (drops first rest r u many o a e) =
    subst (λ (s : State). Waits key number time 0 s.waiting) (sym e)
    (begins key number time rest (subst (IsUnknown key) o u).1)
asked key number time old new told unknown (asks_again before behind q r o u s a e) =
    absurd (known_between key before behind q s (subst (IsUnknown key) o unknown))
asked key number time old new told unknown (answers_one before behind q r o u s a e) = absurd (cc r)
asked key number time old new told unknown (answers_too before behind q r v o u s a e) = absurd (cc r)
asked key number time old new told unknown (answers_none r u v a e) = absurd (cc r)

pub pairs_up : PairsUp
pairs_up key old asked_in before after number last time later between told answer unknown asks_it runs others few
    sees =
    answered key number time (0 + questions_in between) before after last later answer
    (all_go_on key number time 0 asked_in before between others (omega (arith, few))
    (asked key number time old asked_in told unknown asks_it) runs)
    sees
