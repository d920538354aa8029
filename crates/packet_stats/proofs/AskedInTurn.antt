-- Questions in turn.
use Rattle.std.proofs.Common.{◌≡◌, ◌-◌, ◌<◌, ◌++◌, ◌∙◌, [], List, ap, append_assoc, arith}
use Rattle.std.proofs.Common.{append-nil, refl, subst, suc, sym, zero, ℕ}
use Rattle.record_wire.specs.Record.{IsQuestion, QuestionValue}
use Rattle.packet_stats.specs.Dns.{AreAsked, Asks, broken, next}
use Rattle.packet_stats.specs.Dns as dns
use Rattle.packet_stats.specs.Row.{MentionValue}
use Rattle.packet_stats.specs.Stats.{CountsAll, CountsPart, CountsSome, CountsThat, State}
use Rattle.packet_stats.proofs.Counting.{counts_both, some_more, some_then}
use Rattle.packet_stats.proofs.DnsSaid.{asks_one}

-- What is counted of the questions of a message, of which `more` are left at these bytes: what they say is what all say
-- behind it, and what all say begins with it.
pub record AreCounted (message bytes : List ℕ) (count : ℕ) (old : State) (left : List ℕ) (more : ℕ) (new : State)
    : Type 0 where
  pub done : List MentionValue
  pub counted : CountsAll old done new
  pub behind : (ms : List MentionValue) → AreAsked message more left ms → AreAsked message count bytes (done ++ ms)
  pub begins : (ms : List MentionValue) → AreAsked message count bytes ms
      → (others : List MentionValue) × (ms ≡ done ++ others) × AreAsked message more left others

module _ (message bytes : List ℕ) (count : ℕ) (old : State) where
  none_yet : AreCounted message bytes count old bytes count old
  none_yet = record {
    done = [];
    counted = refl;
    behind = λ ms are. are;
    begins = λ ms are. (ms, refl, are);
  }

  pub all_left : (left : List ℕ) (more : ℕ) → left ≡ bytes → more ≡ count
      → AreCounted message bytes count old left more old
  all_left left more from as_many =
      subst (λ l. AreCounted message bytes count old l more old) (sym from)
      (subst (λ n. AreCounted message bytes count old bytes n old) (sym as_many) none_yet)

  -- those that are left begin with this question
  others_of : (left rest : List ℕ) (n : ℕ) (q : QuestionValue) (first : List MentionValue) → Asks message q first
      → ((p : QuestionValue) (r : List ℕ) → IsQuestion left p r → (q ≡ p) × (rest ≡ r)) → IsQuestion left q rest
      → (ms : List MentionValue) → AreAsked message (suc n) left ms
      → (others : List MentionValue) × (ms ≡ first ++ others) × AreAsked message n rest others
  others_of left rest n q first asks only is ms (next p r mine others question said more e) =
      let same = only p r question in
      let one = asks_one message q first mine asks (subst (λ x. Asks message x mine) (sym same.0) said) in (
        others,
        e ∙ ap (λ l. l ++ others) one,
        subst (λ l. AreAsked message n l others) (sym same.1) more,
      )
  others_of left rest n q first asks only is ms (broken none e) = absurd (none q rest is)

  next_counted : (left rest : List ℕ) (n : ℕ) (between new : State) (q : QuestionValue)
      → ((p : QuestionValue) (r : List ℕ) → IsQuestion left p r → (q ≡ p) × (rest ≡ r)) → IsQuestion left q rest
      → AreCounted message bytes count old left (suc n) between → CountsThat (Asks message q) between new
      → AreCounted message bytes count old rest n new
  next_counted left rest n between new q only is so_far (first, asks, counted) = record {
    done = so_far.done ++ first;
    counted = counts_both old between new so_far.done first so_far.counted counted;
    behind = λ ms are.
        subst (AreAsked message count bytes) (sym (append_assoc so_far.done first ms))
        (so_far.behind (first ++ ms) (dns.next q rest first ms is asks are refl));
    begins = λ ms are.
        let (left_over, e, are_left) = so_far.begins ms are in
        let (others, f, are_others) = others_of left rest n q first asks only is left_over are_left in
        (others, e ∙ ap (λ l. so_far.done ++ l) f ∙ sym (append_assoc so_far.done first others), are_others);
  }

  pub one_more : (left rest : List ℕ) (more : ℕ) (between new : State) (q : QuestionValue) → 0 < more
      → ((p : QuestionValue) (r : List ℕ) → IsQuestion left p r → (q ≡ p) × (rest ≡ r)) → IsQuestion left q rest
      → AreCounted message bytes count old left more between → CountsThat (Asks message q) between new
      → AreCounted message bytes count old rest (more - 1) new
  one_more left rest zero between new q some only is so_far counted = absurd (omega (arith, some))
  one_more left rest (suc n) between new q some only is so_far counted =
      let fewer : n ≡ suc n - 1 = omega arith in
      subst (λ k. AreCounted message bytes count old rest k new) fewer
      (next_counted left rest n between new q only is so_far counted)

  -- all are counted, or no more can be read
  pub all_counted : (left : List ℕ) (more : ℕ) (new : State) → more ≡ 0
      → AreCounted message bytes count old left more new → CountsThat (AreAsked message count bytes) old new
  all_counted left more new none so_far = (
    so_far.done ++ [],
    so_far.behind [] (subst (λ n. AreAsked message n left []) (sym none) refl),
    subst (λ l. CountsAll old l new) (sym (append-nil so_far.done)) so_far.counted,
  )

  pub broken_off : (left : List ℕ) (more : ℕ) (new : State) → 0 < more
      → ((q : QuestionValue) (rest : List ℕ) → IsQuestion left q rest → ⊥)
      → AreCounted message bytes count old left more new → CountsThat (AreAsked message count bytes) old new
  broken_off left zero new some none so_far = absurd (omega (arith, some))
  broken_off left (suc n) new some none so_far = (
    so_far.done ++ [],
    so_far.behind [] (dns.broken none refl),
    subst (λ l. CountsAll old l new) (sym (append-nil so_far.done)) so_far.counted,
  )

  -- there is no memory for the next
  some_of_next : (left rest : List ℕ) (n : ℕ) (between new : State) (q : QuestionValue)
      → ((p : QuestionValue) (r : List ℕ) → IsQuestion left p r → (q ≡ p) × (rest ≡ r)) → IsQuestion left q rest
      → CountsPart (Asks message q) between new → (ms : List MentionValue) → AreAsked message (suc n) left ms
      → CountsSome between ms new
  some_of_next left rest n between new q only is part ms (next p r mine others question said more e) =
      subst (λ l. CountsSome between l new) (sym e)
      (some_more between new mine others
      (part mine (subst (λ x. Asks message x mine) (sym (only p r question).0) said)))
  some_of_next left rest n between new q only is part ms (broken none e) = absurd (none q rest is)

  pub part_of_next : (left rest : List ℕ) (more : ℕ) (between new : State) (q : QuestionValue) → 0 < more
      → ((p : QuestionValue) (r : List ℕ) → IsQuestion left p r → (q ≡ p) × (rest ≡ r)) → IsQuestion left q rest
      → AreCounted message bytes count old left more between → CountsPart (Asks message q) between new
      → CountsPart (AreAsked message count bytes) old new
  part_of_next left rest zero between new q some only is so_far part ms are = absurd (omega (arith, some))
  part_of_next left rest (suc n) between new q some only is so_far part ms are =
      let (others, e, are_others) = so_far.begins ms are in
      subst (λ l. CountsSome old l new) (sym e)
      (some_then old between new so_far.done others so_far.counted
      (some_of_next left rest n between new q only is part others are_others))
