-- What a record of a report says.
use Rattle.std.proofs.Common.{◌≡◌, ◌∙◌, ◌++◌, ◌-◌, ◌*◌, ◌<◌, ◌≤◌, [], ◌∷◌, List, ap, arith, drop, length, refl, take}
use Rattle.std.proofs.Common.{suc, true, zero, ℕ}
use Rattle.std.proofs.lemmas.List.{length-drop}
use Rattle.packet_fields.specs.Parts.{parts}
use Rattle.packet_fields.proofs.PartsInTurn.{first_part}
use Rattle.packet_stats.specs.Groups.{filter_said, group_in, group_said, is_member, record_said, source_said}
use Rattle.packet_stats.specs.Row.{said_of}
use Rattle.packet_stats.specs.Subject.{member, source}
use Rattle.packet_stats.specs.Types.{FilterMode}
use Rattle.packet_stats.specs.private.Widths.{is_width}

pub group_is : (group host octets : List ℕ) → octets ≡ group → said_of (member octets host) ∷ [] ≡ group_said group host
unfolding group_said
group_is group host octets same = ap (λ (l : List ℕ). said_of (member l host) ∷ []) same

pub source_is : (group host : List ℕ) (mode : FilterMode) (address octets : List ℕ) → octets ≡ address
    → said_of (source group host mode octets) ∷ [] ≡ source_said group host mode address
unfolding source_said
source_is group host mode address octets same = ap (λ (l : List ℕ). said_of (source group host mode l) ∷ []) same

pub member_is : (width : ℕ) (host bytes group : List ℕ) → is_member width bytes ≡ true → group ≡ group_in width bytes
    → group_said group host ++ filter_said width host bytes ≡ record_said width host bytes
member_is width host bytes group is same =
    ap (λ (l : List ℕ). group_said l host ++ filter_said width host bytes) same ∙ rw is refl

-- ---- sources in turn, of so many octets each

some_octets : (width more : ℕ) (bytes : List ℕ) → is_width width ≡ true → 0 < more → width * more ≤ length bytes
    → 0 < length bytes
some_octets width zero bytes wide some within = absurd (omega (arith, some))
some_octets width (suc n) bytes wide some within = grind arith

pub next_source : (width more : ℕ) (bytes part others : List ℕ) → is_width width ≡ true → 0 < more
    → width * more ≤ length bytes → part ≡ take width bytes → others ≡ drop width bytes
    → parts (λ left. width) more bytes ≡ part ∷ parts (λ left. width) (more - 1) others
next_source width more bytes part others wide some within part_is others_is =
    first_part (λ left. width) more bytes part others some (some_octets width more bytes wide some within) part_is
    others_is

pub fewer_left : (width more : ℕ) (bytes others : List ℕ) → 0 < more → width * more ≤ length bytes
    → others ≡ drop width bytes → width * (more - 1) ≤ length others
fewer_left width zero bytes others some within others_is = absurd (omega (arith, some))
fewer_left width (suc n) bytes others some within others_is =
    let count : length others ≡ length bytes - width = ap length others_is ∙ length-drop width bytes in grind arith
