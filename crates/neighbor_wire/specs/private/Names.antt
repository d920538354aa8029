-- The names as they are computed, which the iterator's model needs.
use Rattle.std.specs.Prelude.{ℕ, zero, suc, ◌+◌, nat_le, Bool, true, false, List, [], ◌∷◌, length, take, drop, Result}
use Rattle.std.specs.Prelude.{Ok, Err}
use Rattle.neighbor_wire.specs.declared.names.NameRefusal.{NameRefusal}
use Rattle.neighbor_wire.specs.Names.{Answer}

-- so many bytes more
abbrev pub more : ℕ → Result ℕ NameRefusal → Result ℕ NameRefusal
more k (Ok n) = Ok (k + n)
more k (Err why) = Err why

-- at a length, which is more than 63 or not, where `go` is what follows
abbrev pub at_len : Bool → ℕ → Result ℕ NameRefusal → Result ℕ NameRefusal
at_len true zero go = Ok 1
at_len true (suc n) go = more 1 go
at_len false n go = Err (NameRefusal.Label n)

-- the bytes of the name at the front, within a label of which so many bytes are still to come
unfoldable pub walk : ℕ → List ℕ → Result ℕ NameRefusal
walk skip [] = Err NameRefusal.Cut
walk zero (n ∷ rest) = at_len (nat_le n 63) n (walk n rest)
walk (suc skip) (x ∷ rest) = more 1 (walk skip rest)

abbrev pub after_name : Result ℕ NameRefusal → List ℕ → (List ℕ → List Answer) → List Answer
after_name (Ok len) bytes go = Ok (take len bytes) ∷ go (drop len bytes)
after_name (Err why) bytes go = Err why ∷ []

-- the answers, in at most a given number of names; a name takes a byte at least
unfoldable pub names_within : ℕ → List ℕ → List Answer
names_within most [] = []
names_within zero (n ∷ rest) = []
names_within (suc most) (zero ∷ rest) = []
names_within (suc most) (suc n ∷ rest) = after_name (walk 0 (suc n ∷ rest)) (suc n ∷ rest) (names_within most)

abbrev pub names_of : List ℕ → List Answer
names_of bytes = names_within (length bytes) bytes
