-- Searches through the answers of a response.
use Rattle.std.proofs.Common.{◌≡◌, ℕ, ◌+◌, Bool, true, false, ◌↔◌, List, refl, sym, ap, ◌∙◌, subst, arith, IsTrue}
use Rattle.control_wire.specs.DnsTypeType.{«Type» as RecordType}
use Rattle.control_wire.specs.DnsRecord.{RecordValue, IsRecord}
use Rattle.examples.specs.Resolver.{Search, TurnValue, found, sought, said_of, Says, Finds, here, later, AreSameName}
use Rattle.examples.specs.declared.resolver.AddressRecord.{AddressRecord}

same_test : (x y : Bool) (P : Type 0) → (IsTrue x ↔ P) → (IsTrue y ↔ P) → x ≡ y
same_test true true P a b = refl
same_test false false P a b = refl
same_test true false P a b = sym (b.1 (a.0 refl))
same_test false true P a b = a.1 (b.0 refl)

-- a record gives one thing
pub says_one : (message : List ℕ) (asked : RecordType) (name : List ℕ) (r : RecordValue) (t u : TurnValue)
    → Says message asked name r t → Says message asked name r u → t ≡ u
says_one message asked name r t u a b =
    let e = same_test a.same b.same (AreSameName message r.name name) a.same_is b.same_is in
    a.is ∙ (ap (λ same. said_of same asked name r) e ∙ sym b.is)

-- there is one record at the start of bytes
abbrev pub IsOnly : List ℕ → RecordValue → List ℕ → Type 0
IsOnly bytes r rest = (other : RecordValue) (others : List ℕ) → IsRecord bytes other others
    → (r ≡ other) × (rest ≡ others)

-- what a search finds where its first record gives the name to continue with
pub later_found : (message : List ℕ) (asked : RecordType) (address : AddressRecord) (after now : Search)
    (r : RecordValue) (name : List ℕ) (left : ℕ) (rest : List ℕ) → now.left ≡ left + 1 → IsOnly now.bytes r rest
    → Says message asked now.name r (sought name) → Finds message asked address after now
    → Finds message asked address after (record { name = name; left = left; bytes = rest })
later_found message asked address after now r name left rest e only says (here other f is_record also same) =
    let one = only other after.bytes is_record in
    let k = says_one message asked now.name r (sought name) (found address) says
    (subst (λ x. Says message asked now.name x (found address)) (sym one.0) also) in
    cc
later_found message asked address after now r name left rest e only says
    (later other name' left' rest' f is_record also g) =
    let one = only other rest' is_record in
    let k = says_one message asked now.name r (sought name) (sought name') says
    (subst (λ x. Says message asked now.name x (sought name')) (sym one.0) also) in
    let names : name' ≡ name = cc in
    let lefts : left' ≡ left = omega arith in
    subst (λ x. Finds message asked address after (record { name = name; left = left; bytes = x })) (sym one.1)
    (subst (λ x. Finds message asked address after (record { name = name; left = x; bytes = rest' })) lefts
    (subst (λ x. Finds message asked address after (record { name = x; left = left'; bytes = rest' })) names g))

-- a search with no record finds nothing
pub none_left : (message : List ℕ) (asked : RecordType) (address : AddressRecord) (after now : Search) → now.left ≡ 0
    → Finds message asked address after now → ⊥
none_left message asked address after now e (here r f is_record says same) = absurd (omega arith)
none_left message asked address after now e (later r name left rest f is_record says g) = absurd (omega arith)

pub none_read : (message : List ℕ) (asked : RecordType) (address : AddressRecord) (after now : Search)
    → ((r : RecordValue) (rest : List ℕ) → IsRecord now.bytes r rest → ⊥) → Finds message asked address after now → ⊥
none_read message asked address after now none (here r f is_record says same) = none r after.bytes is_record
none_read message asked address after now none (later r name left rest f is_record says g) = none r rest is_record
