-- The answers of a name walk as they are computed: the model of the iterator. `DnsNameWalk` states what they are.
use Rattle.std.specs.Prelude.{◌+◌, ◌*◌, ◌%◌, ◌==◌, [], ◌∷◌, List, ℕ, drop, if◌then◌else◌, length, nat_lt, suc, take}
use Rattle.std.specs.Prelude.{zero}
use Rattle.dns_wire.specs.DnsNameWalk.{Coming, label, at_end, at_fault}
use Rattle.dns_wire.specs.DnsNameAhead.{NamePart, whole, pointer, stop, torn}

-- the fourteen bits of a pointer whose first byte is x
abbrev pub pointer_at : ℕ → List ℕ → NamePart
pointer_at x [] = torn
pointer_at x (y ∷ ys) = pointer (256 * (x % 64) + y)

abbrev pub front_of : List ℕ → NamePart
front_of [] = torn
front_of (x ∷ xs) =
    if x == 0 then stop
    else if nat_lt x 64 then (if nat_lt (length xs) x then torn else whole (take x xs) (drop x xs))
    else if nat_lt x 192 then torn
    else pointer_at x xs

-- The answers where the text begins with this and these bytes of the message are open: go gives them after one step
-- more.
abbrev pub by_front : NamePart → ℕ → List ℕ → (ℕ → List ℕ → List ℕ → List Coming) → List Coming
by_front (whole bytes rest) n reach go = record { answer = label bytes; steps = n + 1 } ∷ go (n + 1) rest reach
by_front (pointer target) n reach go =
    if nat_lt target (length reach) then go (n + 1) (drop target reach) (take target reach) else at_fault n
by_front stop n reach go = at_end n
by_front torn n reach go = at_fault n

-- the answers to come after n steps, with this text to read and these bytes of the message open, in at most a given
-- number of steps
unfoldable pub answers : ℕ → ℕ → List ℕ → List ℕ → List Coming
answers zero n text reach = at_fault n
answers (suc most) n text reach = by_front (front_of text) n reach (answers most)

-- the answers to come; each step takes two bytes at least, so there are not more steps than bytes
abbrev pub ahead_of : ℕ → List ℕ → List ℕ → List Coming
ahead_of n text reach = answers (length text + length reach) n text reach
