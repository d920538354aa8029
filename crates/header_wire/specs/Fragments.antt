-- The parts of a payload, each for a fragment of its own (RFC 791 section 3.2, RFC 8200 section 4.5).
use Rattle.std.specs.Prelude.{◌≡◌, ℕ, ◌+◌, ◌*◌, ◌/◌, ◌<◌, ◌≤◌, Bool, true, false, List, [], ◌∷◌, length, map}
use Rattle.std.specs.Prelude.{Option, None, Some}
use Rattle.std.specs.List.{concat}
use Rattle.header_wire.specs.declared.fragments.Fragment.{Fragment}

-- a part by its content: where it begins, in units of 8 bytes; whether others follow; and its bytes
pub record FragmentValue : Type 0 where
  pub frag_offset : ℕ
  pub more_frags : Bool
  pub part : List ℕ

abbrev pub value_of : Fragment → FragmentValue
value_of f = record { frag_offset = f.frag_offset; more_frags = f.more_frags; part = f.part.now }

-- each part begins where the one before it ends, and the first at this byte
abbrev pub BeginAt : ℕ → List FragmentValue → Type 0
BeginAt byte [] = Unit {0}
BeginAt byte (f ∷ more) = (8 * f.frag_offset ≡ byte) × BeginAt (byte + length f.part) more

-- There is a part or more. All but the last say that others follow; each of them is as large as the room allows in
-- units of 8 bytes, and the room is too small for what it and the next one have. The last one has as many bytes as are
-- left.
abbrev pub Fill : ℕ → List FragmentValue → Type 0
Fill room [] = ⊥
Fill room (f ∷ []) = (f.more_frags ≡ false) × (length f.part ≤ room)
Fill room (f ∷ next ∷ more) =
    (f.more_frags ≡ true) × (length f.part ≡ 8 * (room / 8)) × (room < length f.part + length next.part)
    × Fill room (next ∷ more)

-- The parts of a payload for fragments with so much room: joined they are the payload.
pub record AreFragments (room : ℕ) (payload : List ℕ) (fragments : List FragmentValue) : Type 0 where
  pub joined : concat (map (λ f. f.part) fragments) ≡ payload
  pub begin : BeginAt 0 fragments
  pub fill : Fill room fragments

-- a call of `next` gives the first part and takes it off; where none is left it gives None, and none is left afterwards
abbrev pub GivesFragment : List FragmentValue → Option Fragment → List FragmentValue → Type 0
GivesFragment old None new = (old ≡ []) × (new ≡ [])
GivesFragment old (Some f) new = old ≡ value_of f ∷ new
