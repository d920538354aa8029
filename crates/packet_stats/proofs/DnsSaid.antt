-- What messages of DNS say is counted.
use Rattle.std.proofs.Common.{◌≡◌, ◌<◌, ◌≤◌, ◌∙◌, [], ◌∷◌, Err, List, Ok, OnErr, OnOk, Option, Result, ap, arith}
use Rattle.std.proofs.Common.{refl, subst, sym, ℕ}
use Rattle.wirebase.specs.Bytes.{Reaches}
use Rattle.dns_wire.specs.DnsPacket.{header}
use Rattle.dns_fields.specs.Header.{word_in}
use Rattle.record_wire.specs.NameCase.{lower_labels}
use Rattle.record_wire.specs.Names.{Names}
use Rattle.record_wire.specs.Record.{QuestionValue}
use Rattle.record_wire.proofs.NameReads.{names_one}
use Rattle.packet_stats.specs.Dns.{AreQuestions, Asks, DnsSays, asks, named, responds, response_of, short}
use Rattle.packet_stats.specs.Dns.{unnamed}
use Rattle.packet_stats.specs.Row.{MentionValue, said_of}
use Rattle.packet_stats.specs.Stats.{CountsAll, CountsOne, CountsPart, CountsSome, CountsThat, State}
use Rattle.packet_stats.specs.Subject.{question}
use Rattle.packet_stats.specs.Types.{Fault, IpAddress}
use Rattle.packet_stats.proofs.Counting.{none_counted}

-- ---- a question

pub question_counted : (r : Result (Unit {0}) Fault) (old new : State) (message : List ℕ) (q : QuestionValue)
    (labels low : List (List ℕ)) → Names message q.name labels → low ≡ lower_labels labels
    → OnOk r (CountsOne old (said_of (question low q.kind)) new) → OnOk r (CountsThat (Asks message q) old new)
question_counted (Ok u) old new message q labels low names is counted = (
  said_of (question low q.kind) ∷ [],
  named labels names (ap (λ l. said_of (question l q.kind) ∷ []) is),
  (new, counted, refl),
)
question_counted (Err fault) old new message q labels low names is counted = tt

part_of_question : (old new : State) (message : List ℕ) (q : QuestionValue) (labels : List (List ℕ))
    → Names message q.name labels → new ≡ old → (ms : List MentionValue) → Asks message q ms → CountsSome old ms new
part_of_question old new message q labels names same ms (named others other is) =
    subst (λ l. CountsSome old l new) (sym is) (none_counted old new _ [] same)
part_of_question old new message q labels names same ms (unnamed none is) = absurd (none labels names)

pub question_broken : (r : Result (Unit {0}) Fault) (old new : State) (message : List ℕ) (q : QuestionValue)
    (labels : List (List ℕ)) → Names message q.name labels → OnErr r (new ≡ old)
    → OnErr r (CountsPart (Asks message q) old new)
question_broken (Ok u) old new message q labels names same = tt
question_broken (Err fault) old new message q labels names same = part_of_question old new message q labels names same

-- a question says one thing
pub asks_one : (message : List ℕ) (q : QuestionValue) (ms others : List MentionValue) → Asks message q ms
    → Asks message q others → others ≡ ms
asks_one message q ms others (named labels names is) (named more again same) =
    same
    ∙ ap (λ l. said_of (question (lower_labels l) q.kind) ∷ []) (names_one message q.name labels more names again)
    ∙ sym is
asks_one message q ms others (named labels names is) (unnamed none same) = absurd (none labels names)
asks_one message q ms others (unnamed none is) (named labels names same) = absurd (none labels names)
asks_one message q ms others (unnamed none is) (unnamed nor same) = same ∙ sym is

-- ---- a response

pub two_counted : (r : Result (Unit {0}) Fault) (old between new : State) (m n : MentionValue) → CountsOne old m between
    → OnOk r (CountsOne between n new) → OnOk r (CountsAll old (m ∷ n ∷ []) new)
two_counted (Ok u) old between new m n first second = (between, first, (new, second, refl))
two_counted (Err fault) old between new m n first second = tt

pub second_broken : (r : Result (Unit {0}) Fault) (old between new : State) (m n : MentionValue)
    → CountsOne old m between → OnErr r (new ≡ between) → OnErr r (CountsSome old (m ∷ n ∷ []) new)
second_broken (Ok u) old between new m n first same = tt
second_broken (Err fault) old between new m n first same =
    record { done = m ∷ []; m = n; left = []; parts = refl; counted = (between, first, same) }

-- ---- a message

module _ (source : IpAddress) (after : Option ℕ) (message : List ℕ) (old new : State) where
  pub query_counted : (r : Result (Unit {0}) Fault) (view : List ℕ) → view ≡ message → Reaches header message
      → word_in message < 0x8000 → OnOk r (CountsThat (AreQuestions view) old new)
      → OnOk r (CountsThat (DnsSays source after message) old new)
  query_counted (Ok u) view same whole is (ms, are, counted) =
      (ms, asks whole is (subst (λ l. AreQuestions l ms) same are), counted)
  query_counted (Err fault) view same whole is counted = tt

  part_of_query : (view : List ℕ) → view ≡ message → Reaches header message → word_in message < 0x8000
      → CountsPart (AreQuestions view) old new → (ms : List MentionValue) → DnsSays source after message ms
      → CountsSome old ms new
  part_of_query view same whole is part ms (short none e) = absurd (none whole)
  part_of_query view same whole is part ms (asks w i are) = part ms (subst (λ l. AreQuestions l ms) (sym same) are)
  part_of_query view same whole is part ms (responds w i e) = absurd (omega (arith, is, i))

  pub query_broken : (r : Result (Unit {0}) Fault) (view : List ℕ) → view ≡ message → Reaches header message
      → word_in message < 0x8000 → OnErr r (CountsPart (AreQuestions view) old new)
      → OnErr r (CountsPart (DnsSays source after message) old new)
  query_broken (Ok u) view same whole is part = tt
  query_broken (Err fault) view same whole is part = part_of_query view same whole is part

  pub response_counted : (r : Result (Unit {0}) Fault) → Reaches header message → 0x8000 ≤ word_in message
      → OnOk r (CountsAll old (response_of source after message) new)
      → OnOk r (CountsThat (DnsSays source after message) old new)
  response_counted (Ok u) whole is counted = (response_of source after message, responds whole is refl, counted)
  response_counted (Err fault) whole is counted = tt

  part_of_response : Reaches header message → 0x8000 ≤ word_in message
      → CountsSome old (response_of source after message) new → (ms : List MentionValue)
      → DnsSays source after message ms → CountsSome old ms new
  part_of_response whole is part ms (short none e) = absurd (none whole)
  part_of_response whole is part ms (asks w i are) = absurd (omega (arith, is, i))
  part_of_response whole is part ms (responds w i e) = subst (λ l. CountsSome old l new) (sym e) part

  pub response_broken : (r : Result (Unit {0}) Fault) → Reaches header message → 0x8000 ≤ word_in message
      → OnErr r (CountsSome old (response_of source after message) new)
      → OnErr r (CountsPart (DnsSays source after message) old new)
  response_broken (Ok u) whole is part = tt
  response_broken (Err fault) whole is part = part_of_response whole is part
