-- Options that stand in several parts (RFC 2131 section 4.1, RFC 3396).
use Rattle.std.specs.Prelude.{◌≡◌, ◌==◌, [], ◌∷◌, Err, List, None, Ok, Option, Some, flat_map}
use Rattle.std.specs.Prelude.{if◌then◌else◌, length, ℕ}
use Rattle.std.specs.Borrow.{Bor}
use Rattle.dhcp_options.specs.Parts.{Answer}

-- the octets of the parts of a kind, in order
abbrev pub octets_of : ℕ → List Answer → List (List ℕ)
octets_of kind [] = []
octets_of kind (Ok part ∷ more) =
    if part.kind == kind then part.octets ∷ octets_of kind more else octets_of kind more
octets_of kind (Err refusal ∷ more) = octets_of kind more

-- octets one after another
abbrev pub together : List (List ℕ) → List ℕ
together parts = flat_map (λ octets. octets) parts

-- the octets of an option that stands in parts
abbrev pub joined : ℕ → List Answer → List ℕ
joined kind answers = together (octets_of kind answers)

-- a call of `next` gives the octets of the first part and takes them off; where no part is left it gives None, and none
-- is left afterwards
abbrev pub GivesOctets : List (List ℕ) → Option (Bor (List ℕ)) → List (List ℕ) → Type 0
GivesOctets old None new = (old ≡ []) × (new ≡ [])
GivesOctets old (Some octets) new = old ≡ octets.now ∷ new

-- the octets of a kind that has one part
abbrev pub only : List (List ℕ) → Option (List ℕ)
only [] = None
only (octets ∷ []) = Some octets
only (octets ∷ next ∷ more) = None

-- how many bytes have to be copied to have all octets of a kind in one slice: those of one part stand in one already
abbrev pub copied_for : Option (List ℕ) → ℕ → ℕ
copied_for (Some octets) all = 0
copied_for None all = all

abbrev pub copied : ℕ → List Answer → ℕ
copied kind answers = copied_for (only (octets_of kind answers)) (length (joined kind answers))
