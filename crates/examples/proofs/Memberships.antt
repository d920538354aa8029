-- Records in a writer one after another, the number of sources of a query, and the longest times of queries.
use Rattle.std.proofs.Common.{◌≡◌, ◌<◌, ◌≤◌, ◌+◌, ◌*◌, ◌/◌, ◌%◌, ◌^◌, ◌∙◌, ℕ, zero, suc, List, [], ◌∷◌, ◌++◌, length}
use Rattle.std.proofs.Common.{Bool, true, false, cond, refl, sym, subst, ap, arith, take, drop, get_or, set, inl, inr}
use Rattle.std.proofs.Common.{◌↔◌, Some, Result, Ok, Err, IsOk, OnErr, lit<}
use Rattle.std.specs.Prelude.{map}
use Rattle.std.specs.List.{concat, filter}
use Rattle.std.proofs.lemmas.List.{append-nil, append_assoc, map-append, length-append, take_more_set}
use Rattle.std.proofs.lemmas.List.Elements.{filter_more}
use Rattle.std.proofs.lemmas.Bool.{cases_lt, lt-ltb, le-ltb}
use Rattle.std.proofs.lemmas.Nat.{mul-le}
use Rattle.std.proofs.Math.Nat.{pow-le-pow_right}
use Rattle.control_wire.specs.IgmpCode.{code_millis}
use Rattle.control_wire.specs.MldPacket.{resp_millis}
use Rattle.control_wire.specs.MldRecordTypeType.{RecordType}
use Rattle.group_wire.specs.declared.address.Address.{Ghosts}
use Rattle.group_wire.specs.declared.writer.RecordsWriter.{RecordsWriter}
use Rattle.group_wire.specs.Records.{records_ahead}
use Rattle.group_wire.specs.Sources.{sources_ahead}
use Rattle.group_wire.specs.Times.{interval_seconds, query_millis}
use Rattle.group_wire.specs.declared.family.Family.{Family}
use Rattle.group_wire.specs.Writer.{settled, count_of, free, Fits, IsUnchanged}
use Rattle.examples.specs.Membership.{Said, said, said_of_some, said_text, Adds, IsFull}

-- ---- records

concat-append : (xss yss : List (List ℕ)) → concat (xss ++ yss) ≡ concat xss ++ concat yss
concat-append [] yss = refl
concat-append (xs ∷ xss) yss =
    ap (λ (l : List ℕ). xs ++ l) (concat-append xss yss) ∙ sym (append_assoc xs (concat xss) (concat yss))

none_of_both : {X : Type 0} (xs ys : List X) → xs ++ ys ≡ [] → (xs ≡ []) × (ys ≡ [])
none_of_both [] ys e = (refl, e)
none_of_both (x ∷ xs) ys e = cc

-- records after records
pub added_both : {A : Type 0} {ghosts : Ghosts A} (bytes : A → List ℕ) (w : ℕ) (group : A) (first later : List (Said A))
    (old between new : RecordsWriter A ghosts) → Adds bytes w group first old between
    → Adds bytes w group later between new → Adds bytes w group (first ++ later) old new
added_both bytes w group first later old between new a b =
    let f = said_text bytes w group in
    record {
      count = omega (arith, a.count, b.count, length-append first later);
      octets = b.octets ∙ ap (λ (l : List ℕ). l ++ concat (map f later)) a.octets
          ∙ append_assoc (settled old) (concat (map f first)) (concat (map f later))
          ∙ ap (λ (l : List ℕ). settled old ++ l)
          (sym (concat-append (map f first) (map f later)) ∙ ap concat (sym (map-append f first later)));
      listed = b.listed ∙ ap (λ (l : List (List ℕ)). l ++ map f later) a.listed
          ∙ append_assoc (records_ahead w (count_of old) (settled old)) (map f first) (map f later)
          ∙ ap (λ (l : List (List ℕ)). records_ahead w (count_of old) (settled old) ++ l)
          (sym (map-append f first later));
      none = λ e. let parts = none_of_both first later e in b.none parts.1 ∙ a.none parts.0;
    }

-- the only record is refused
pub full_at_once : {A : Type 0} {ghosts : Ghosts A} (bytes : A → List ℕ) (w : ℕ) (group : A) (kind : RecordType)
    (sources : List A) (old new : RecordsWriter A ghosts) → IsUnchanged old new
    → ¬ Fits w (count_of old) (length (free old)) (length sources)
    → IsFull bytes w group (said kind sources ∷ []) old new
full_at_once bytes w group kind sources old new same unfit = record {
  first = [];
  next = said kind sources;
  others = [];
  all = refl;
  added = record {
    count = same.1 ∙ omega arith;
    octets = same.0 ∙ sym (append-nil (settled old));
    listed = rw (same.1, same.0) (sym (append-nil (records_ahead w (count_of old) (settled old))));
    none = λ e. same.2;
  };
  unfit = rw (same.1, same.2) unfit;
}

-- what the writer answers to it, where it is all that is to be written
pub full_if_refused : {A T E : Type 0} {ghosts : Ghosts A} (bytes : A → List ℕ) (w : ℕ) (group : A) (kind : RecordType)
    (sources : List A) (records : List (Said A)) (old new : RecordsWriter A ghosts) (r : Result T E)
    → records ≡ said kind sources ∷ []
    → (IsOk r ↔ Fits w (count_of old) (length (free old)) (length sources)) → OnErr r (IsUnchanged old new)
    → OnErr r (IsFull bytes w group records old new)
full_if_refused bytes w group kind sources records old new (Ok x) is accepts same = tt
full_if_refused bytes w group kind sources records old new (Err e) is accepts same =
    subst (λ (l : List (Said _)). IsFull bytes w group l old new) (sym is)
    (full_at_once bytes w group kind sources old new same (λ fits. let no = accepts.1 fits in cc))

-- there is a record of some sources
pub some_are_said : {A : Type 0} (kind : RecordType) (sources : List A) → 1 ≤ length sources
    → said_of_some kind sources ≡ said kind sources ∷ []
some_are_said kind [] some = absurd (omega arith)
some_are_said kind (one ∷ more) some = refl

-- one of the first records is refused
pub full_before : {A : Type 0} {ghosts : Ghosts A} (bytes : A → List ℕ) (w : ℕ) (group : A)
    (first later : List (Said A)) (old new : RecordsWriter A ghosts) → IsFull bytes w group first old new
    → IsFull bytes w group (first ++ later) old new
full_before bytes w group first later old new full = record {
  first = full.first;
  next = full.next;
  others = full.others ++ later;
  added = full.added;
  unfit = full.unfit;
  all = ap (λ (l : List (Said _)). l ++ later) full.all ∙ append_assoc full.first (full.next ∷ full.others) later;
}

-- one of the records after them is refused
pub full_later : {A : Type 0} {ghosts : Ghosts A} (bytes : A → List ℕ) (w : ℕ) (group : A) (first later : List (Said A))
    (old between new : RecordsWriter A ghosts) → Adds bytes w group first old between
    → IsFull bytes w group later between new → IsFull bytes w group (first ++ later) old new
full_later bytes w group first later old between new added full = record {
  first = first ++ full.first;
  next = full.next;
  others = full.others;
  all = ap (λ (l : List (Said _)). first ++ l) full.all ∙ sym (append_assoc first full.first (full.next ∷ full.others));
  added = added_both bytes w group first full.first old between new added full.added;
  unfit = full.unfit;
}

-- ---- sources

-- a turn of a loop that gathers the elements at which a test gives true: one that it takes, and one that it leaves
pub one_taken : {X : Type 0} (test : X → Bool) (xs room after : List X) (i n m : ℕ) (x : X) (passes : Bool)
    → i < length xs → n < length room → x ≡ get_or xs i x → passes ≡ test x → passes ≡ true → after ≡ set room n x
    → m ≡ n + 1 → take n room ≡ filter test (take i xs) → take m after ≡ filter test (take (i + 1) xs)
one_taken test xs room after i n m x passes less fits is tests held a e so_far =
    let more = filter_more test xs i x less in
    let taken : test x ≡ true = sym tests ∙ held in
    let same : cond (test (get_or xs i x)) (get_or xs i x ∷ []) [] ≡ x ∷ [] = rw (← is, taken) refl in
    rw (e, a) (take_more_set room n x fits ∙ ap (λ (l : List _). l ++ x ∷ []) so_far
    ∙ sym (more ∙ ap (λ (l : List _). filter test (take i xs) ++ l) same))

pub one_left : {X : Type 0} (test : X → Bool) (xs room after : List X) (i n m : ℕ) (x : X) (passes : Bool)
    → i < length xs → x ≡ get_or xs i x → passes ≡ test x → passes ≡ false → after ≡ room → m ≡ n
    → take n room ≡ filter test (take i xs) → take m after ≡ filter test (take (i + 1) xs)
one_left test xs room after i n m x passes less is tests failed a e so_far =
    let left : test x ≡ false = sym tests ∙ failed in
    let same : cond (test (get_or xs i x)) (get_or xs i x ∷ []) [] ≡ [] = rw (← is, left) refl in
    let more : filter test (take (i + 1) xs) ≡ filter test (take i xs) =
    filter_more test xs i x less ∙ ap (λ (l : List _). filter test (take i xs) ++ l) same
    ∙ append-nil (filter test (take i xs)) in
    rw (e, a) (so_far ∙ sym more)

pub length-sources : (w n : ℕ) (bytes : List ℕ) → length (sources_ahead w n bytes) ≡ n
unfolding sources_ahead
length-sources w zero bytes = refl
length-sources w (suc n) bytes = ap suc (length-sources w n (drop w bytes))

-- ---- times

code_millis-most : (code : ℕ) → code_millis code ≤ 3174400
unfolding code_millis
code_millis-most code =
    elim (cases_lt code 128) [
      | inl l ↦ rw (lt-ltb code 128 l) (omega arith)
      | inr l ↦
          let e : ℕ = code / 16 % 8 in
          let few : e + 3 ≤ 10 = omega arith in
          let power : 2 ^ (e + 3) ≤ 2 ^ 10 = pow-le-pow_right (lit< tt) few in
          let bound : (16 + code % 16) * 2 ^ (e + 3) ≤ 31 * 2 ^ 10 =
          mul-le (16 + code % 16) (2 ^ (e + 3)) 31 (2 ^ 10) (omega arith) power in
          rw (le-ltb code 128 l) (omega (arith, bound))
    ]

resp_millis-most : (code : ℕ) → resp_millis code ≤ 8387584
unfolding resp_millis
resp_millis-most code =
    elim (cases_lt code 32768) [
      | inl l ↦ rw (lt-ltb code 32768 l) (omega arith)
      | inr l ↦
          let e : ℕ = code / 4096 % 8 in
          let few : e + 3 ≤ 10 = omega arith in
          let power : 2 ^ (e + 3) ≤ 2 ^ 10 = pow-le-pow_right (lit< tt) few in
          let bound : (4096 + code % 4096) * 2 ^ (e + 3) ≤ 8191 * 2 ^ 10 =
          mul-le (4096 + code % 4096) (2 ^ (e + 3)) 8191 (2 ^ 10) (omega arith) power in
          rw (le-ltb code 32768 l) (omega (arith, bound))
    ]

query_millis-most : (f : Family) (code : ℕ) → query_millis f code ≤ 8387584
query_millis-most Family.Igmp code = omega (arith, code_millis-most (code % 256))
query_millis-most Family.Mld code = resp_millis-most code

-- what a query tells as its response time
pub response_most : (f : Family) (code micros : ℕ) → Some micros ≡ Some (1000 * query_millis f code)
    → micros ≤ 8387584000
response_most f code micros told =
    let same : micros ≡ 1000 * query_millis f code = cc in
    omega (arith, same, query_millis-most f code)

pub interval-most : (code : ℕ) → interval_seconds code ≤ 31744
interval-most code = omega (arith, code_millis-most code)
