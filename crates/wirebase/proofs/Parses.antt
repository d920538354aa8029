-- The promise of a parser that answers a type of its own: if it is sound and reads where there is a value, it reads
-- that value.
use Rattle.wirebase.proofs.Words.{◌≡◌, Bool, Err, IsOk, IsOkAnd, IsTrue, Ok, Result, refl}
use Rattle.std.proofs.Common.{◌↔◌, IfOk, false, true}

pub reads-complete : {V T E : Type 0} (Reads : V → Type 0) → ((v w : V) → Reads v → Reads w → v ≡ w)
    → (value : T → V) (result : Result T E)
    → IfOk result (λ x. Reads (value x)) → IsOk result → (v : V) → Reads v → IsOkAnd result (λ x. value x ≡ v)
reads-complete Reads one value (Ok x) sound ok v is = one (value x) v sound is
reads-complete Reads one value (Err e) sound ok v is = cc

-- flags that the same bytes set are the same
pub same_flag : (a b : Bool) (P : Type 0) → (IsTrue a ↔ P) → (IsTrue b ↔ P) → a ≡ b
same_flag true true P f g = refl
same_flag false false P f g = refl
same_flag true false P f g = absurd (let no = g.1 (f.0 refl) in cc)
same_flag false true P f g = absurd (let no = f.1 (g.0 refl) in cc)
