-- The sources of a record or of a query, in turn (RFC 3376 sections 4.1.9 and 4.2.9, RFC 3810 sections 5.1.11 and
-- 5.2.9).
use Rattle.std.specs.Prelude.{◌≡◌, ℕ, zero, suc, ◌*◌, ◌/◌, ◌^◌, ◌<◌, min, List, [], ◌∷◌, length, take, drop}
use Rattle.std.specs.Prelude.{Option, None, Some}
use Rattle.std.specs.List.{AllByRecursion, concat}
use Rattle.group_wire.specs.declared.sources.Sources.{Sources}

-- the octets of sources
abbrev pub octets_in : {A : Type 0} → Sources A → List ℕ
octets_in sources = sources.octets.now

-- whole addresses of `w` bytes, no more than a query or a record can count in its two bytes
abbrev pub AreAddresses : ℕ → List ℕ → Type 0
AreAddresses w bytes = (count : ℕ) × (length bytes ≡ w * count) × (count < 2 ^ 16)

-- such addresses at the front of some bytes, as many as are whole and can be counted
abbrev pub addresses_in : ℕ → List ℕ → List ℕ
addresses_in w bytes = take (w * min (length bytes / w) 65535) bytes

-- The sources in some bytes: addresses of `w` bytes, as many as are whole, one after another.
pub record AreSources (w : ℕ) (bytes : List ℕ) (sources : List (List ℕ)) : Type 0 where
  pub number : length sources ≡ length bytes / w
  pub each : AllByRecursion (λ source. length source ≡ w) sources
  pub whole : concat sources ≡ take (w * length sources) bytes

-- the same addresses as they are computed: a given number of them, and those that the bytes hold whole
unfoldable pub sources_ahead : ℕ → ℕ → List ℕ → List (List ℕ)
sources_ahead w zero bytes = []
sources_ahead w (suc n) bytes = take w bytes ∷ sources_ahead w n (drop w bytes)

abbrev pub sources_in : ℕ → List ℕ → List (List ℕ)
sources_in w bytes = sources_ahead w (length bytes / w) bytes

-- a call of `next` gives the first address and takes it off; where none is left it gives None, and none is left
-- afterwards
abbrev pub GivesSource : {A : Type 0} → (A → List ℕ) → List (List ℕ) → Option A → List (List ℕ) → Type 0
GivesSource bytes old None new = (old ≡ []) × (new ≡ [])
GivesSource bytes old (Some address) new = old ≡ bytes address ∷ new
