-- The routers of an advertisement (RFC 1256 section 3): entries of words, the address first, then the preference in
-- two's complement; further words are not looked at.
--
--  0                   1                   2                   3
--  0 1 2 3 4 5 6 7 8 9 0 1 2 3 4 5 6 7 8 9 0 1 2 3 4 5 6 7 8 9 0 1
-- +---------------------------------------------------------------+
-- |                        router address                         |
-- +---------------------------------------------------------------+
-- |                       preference level                        |
-- +---------------------------------------------------------------+
use Rattle.std.specs.Prelude.{◌≡◌, ℕ, ◌+◌, ◌*◌, ◌<◌, ◌≤◌, List, [], ◌∷◌, length, take, Option, None, Some}
use Rattle.std.specs.Int.{cast_signed, w32}
use Rattle.std.specs.List.{AllByRecursion, concat}
use Rattle.wirebase.specs.Bytes.{field, bytes_of, number_of}
use Rattle.wirebase.specs.Ipv4.{octets_of}
use Rattle.header_wire.specs.declared.icmpv4.routers.Router.{Router}
use Rattle.header_wire.specs.declared.icmpv4.routers.Routers.{Routers}

-- how many routers there are, the words of each entry, and the octets of all
abbrev pub count_in : Routers → ℕ
count_in routers = routers.count

abbrev pub words_in : Routers → ℕ
words_in routers = 2 + routers.spare_words

abbrev pub octets_in : Routers → List ℕ
octets_in routers = routers.octets.now

-- the bytes of an entry
abbrev pub entry_len : ℕ → ℕ
entry_len words = 4 * words

-- The entries of `w` bytes at the front of some bytes, one after another: as many as are asked for; or where they are
-- fewer, the bytes end before the next one does.
pub record AreEntries (w count : ℕ) (bytes : List ℕ) (entries : List (List ℕ)) : Type 0 where
  pub each : AllByRecursion (λ entry. length entry ≡ w) entries
  pub whole : concat entries ≡ take (w * length entries) bytes
  pub most : length entries ≤ count
  pub ends : length entries < count → length bytes < w * length entries + w

-- the router of an entry
pub record IsRouter (entry : List ℕ) (router : Router) : Type 0 where
  pub addr : octets_of router.addr ≡ bytes_of (field 0 4) entry
  pub preference : router.preference ≡ cast_signed w32 (number_of (field 4 8) entry)

-- a call of `next` gives the router of the first entry and takes that off; where none is left it gives None, and none
-- is left afterwards
abbrev pub GivesRouter : List (List ℕ) → Option Router → List (List ℕ) → Type 0
GivesRouter old None new = (old ≡ []) × (new ≡ [])
GivesRouter old (Some router) new = (entry : List ℕ) × IsRouter entry router × (old ≡ entry ∷ new)
