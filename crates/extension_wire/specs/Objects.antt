-- The objects of an extension structure in turn (RFC 4884 section 7).
use Rattle.std.specs.Prelude.{◌≡◌, ◌≤◌, List, [], ◌∷◌, length, ℕ, Result, Ok, Err}
use Rattle.extension_wire.specs.declared.object.Objects.{Objects}
use Rattle.extension_wire.specs.declared.refusal.ObjectRefusal.{ObjectRefusal}
use Rattle.extension_wire.specs.Object.{ObjectValue, IsObject, Refuses}

-- the octets of objects
abbrev pub octets_in : Objects → List ℕ
octets_in objects = objects.octets.now

-- an answer: an object, or why none begins there
abbrev pub Answer : Type 0
Answer = Result ObjectValue ObjectRefusal

-- Objects one after another up to the end of the bytes, or up to a place where none begins, which is answered by one
-- refusal.
abbrev pub Tile : List ℕ → List Answer → Type 0
Tile bytes [] = bytes ≡ []
Tile bytes (Ok object ∷ answers) = (rest : List ℕ) × IsObject bytes object rest × Tile rest answers
Tile bytes (Err why ∷ answers) = (1 ≤ length bytes) × Refuses bytes why × (answers ≡ [])
