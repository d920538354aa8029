-- The bytes of a record after its fixed fields.
use Rattle.dns_wire.proofs.Words.{◌-◌, List, ℕ, drop, length, take}

-- the bytes after the fixed fields
abbrev pub behind : List ℕ → List ℕ
behind bytes = take (length bytes - 10) (drop 10 bytes)
