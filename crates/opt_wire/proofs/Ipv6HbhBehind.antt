-- Options one by one, and the header that they are read as.
use Rattle.opt_wire.proofs.Words.{[], ◌++◌, ◌+◌, ◌∙◌, ◌∷◌, ◌≡◌, ◌≢◌, ◌≤◌, Answer, List, Ok, OptionValue, Tile, ℕ}
use Rattle.opt_wire.proofs.Words.{add-one, ap, append-nil, append_assoc, arith, drop, length, length-append, length-map}
use Rattle.opt_wire.proofs.Words.{map-append, none, refl, subst, suc, sym, take, take_at}
use Rattle.opt_wire.specs.Ipv6Option.{text_len, BeginsWith}
use Rattle.opt_wire.specs.private.Ipv6OptionModel.{answers_of}
use Rattle.opt_wire.specs.Ipv6OptionRefusal as option
use Rattle.opt_wire.specs.Ipv6HbhRefusal.{IsRead, AreBehind, one_more}
use Rattle.opt_wire.proofs.Ipv6OptionTiles.{rest_after, tile_of, answers_of-nothing, answers_of-begins}
use Rattle.opt_wire.proofs.Ipv6OptionTiles.{answers_of-broken}
use Rattle.opt_wire.proofs.Ipv6HbhGrammar.{all, header-end, header-refused}

-- the answers where the bytes begin with an option
one_answer : (bytes rest : List ℕ) (b : option.IsBehind bytes rest) → answers_of bytes ≡ Ok b.1 ∷ answers_of rest
one_answer bytes rest b =
    let is : BeginsWith bytes b.1 = record { front = b.0; rest = rest; whole = b.2; option = b.3 } in
    let behind : drop (text_len b.1) bytes ≡ rest = ap (λ (l : List ℕ). drop (text_len b.1) l) b.2
    ∙ rest_after b.0 rest b.1 b.3 in
    answers_of-begins bytes b.1 is ∙ ap (λ (l : List ℕ). Ok b.1 ∷ answers_of l) behind

abbrev Before : List ℕ → ℕ → List ℕ → Type 0
Before bytes count rest = (read : List OptionValue) × (length read ≡ count) × Tile bytes (all read ++ answers_of rest)

before_next : (bytes : List ℕ) (count : ℕ) (middle rest : List ℕ) → Before bytes count middle
    → option.IsBehind middle rest → Before bytes (suc count) rest
before_next bytes count middle rest e b =
    let v : OptionValue = b.1 in
    let read : List OptionValue = e.0 ++ (v ∷ []) in
    let front : all e.0 ++ (Ok v ∷ answers_of rest) ≡ all read ++ answers_of rest =
    sym (append_assoc (all e.0) (Ok v ∷ []) (answers_of rest))
    ∙ ap (λ (l : List Answer). l ++ answers_of rest) (sym (map-append Ok e.0 (v ∷ []))) in (
      read,
      omega (arith, length-append e.0 (v ∷ []), e.1),
      subst (λ (l : List Answer). Tile bytes l)
          (ap (λ (l : List Answer). all e.0 ++ l) (one_answer middle rest b) ∙ front) e.2,
    )

-- the options before a place
before : (bytes : List ℕ) (count : ℕ) (rest : List ℕ) → AreBehind bytes count rest → Before bytes count rest
before bytes count rest none = ([], refl, tile_of bytes)
before bytes count rest (one_more {count = n} {middle = middle} a b) =
    before_next bytes n middle rest (before bytes n middle a) b

-- there is one more option before the next place
pub next_place : (bytes : List ℕ) (count : ℕ) (middle rest : List ℕ) → AreBehind bytes count middle
    → option.IsBehind middle rest → AreBehind bytes (count + 1) rest
next_place bytes count middle rest a b =
    subst (λ (n : ℕ). AreBehind bytes n rest) (sym (add-one count)) (one_more a b)

-- all bytes up to the end are options
pub read-end : (most : ℕ) (bytes : List ℕ) (count : ℕ) (rest : List ℕ) → AreBehind bytes count rest → bytes ≢ []
    → length rest ≡ 0 → count ≤ most → IsRead most bytes
read-end most bytes count [] a some e l =
    let b = before bytes count [] a in (
      b.0,
      header-end most bytes b.0 _ some b.2
          (ap (λ (l : List Answer). all b.0 ++ l) answers_of-nothing ∙ append-nil (all b.0)) (omega (arith, l, b.1)),
    )
read-end most bytes count (t ∷ rest) a some e l = absurd (omega (arith, e))

-- one more than are kept was read
pub read-full : (most : ℕ) (bytes : List ℕ) (count : ℕ) (rest : List ℕ) → AreBehind bytes count rest → bytes ≢ []
    → count ≡ most + 1 → IsRead most bytes
read-full most bytes count rest a some full =
    let b = before bytes count rest a in (
      take most b.0,
      record {
        answers = all b.0 ++ answers_of rest;
        read = b.0;
        some = some;
        tile = b.2;
        good = take_at (all b.0) (answers_of rest) (most + 1) (length-map {B = Answer} b.0 Ok ∙ b.1 ∙ full);
        kept = refl;
      },
    )

-- after at most as many options as are kept, the bytes begin with no option
pub read-broken : (most : ℕ) (bytes : List ℕ) (count : ℕ) (rest : List ℕ) → AreBehind bytes count rest
    → count ≤ most → rest ≢ [] → (option.IsRead rest → ⊥) → IsRead most bytes → ⊥
read-broken most bytes count rest a l some no_option read =
    let b = before bytes count rest a in
    header-refused most bytes b.0 read.0 (record {}) _ [] b.2
    (ap (λ (l : List Answer). all b.0 ++ l) (answers_of-broken rest some (λ v h. no_option (v, h))))
    (omega (arith, l, b.1)) read.1
