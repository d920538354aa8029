-- The texts of types and classes, with a mnemonic and without.
use Rattle.record_wire.proofs.Words.{◌≡◌, ◌++◌, List, None, Option, Some, ℕ, ap, decimal, sym}
use Rattle.dns_wire.specs.DnsDisplay.{name_or}

pub name_some : (word mnemonic : List ℕ) (found : Option (List ℕ)) (n : ℕ) → Some mnemonic ≡ found
    → name_or word found n ≡ mnemonic
name_some word mnemonic found n e = ap (λ (o : Option (List ℕ)). name_or word o n) (sym e)

pub name_none : (word : List ℕ) (found : Option (List ℕ)) (n : ℕ) → None ≡ found
    → name_or word found n ≡ word ++ decimal n
name_none word found n e = ap (λ (o : Option (List ℕ)). name_or word o n) (sym e)
