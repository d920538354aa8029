-- Which parts are the first of their kind, by marks of the kinds that were met.
use Rattle.std.specs.Prelude.{◌==◌, [], ◌∷◌, Bool, Err, List, Ok, false, if◌then◌else◌, not, slice_index_or, slice_set}
use Rattle.std.specs.Prelude.{true, ℕ}
use Rattle.dhcp_options.specs.Parts.{Answer, PlacedAnswer, part_of}

abbrev pub marked : List Bool → List PlacedAnswer → List Answer
marked seen [] = []
marked seen (Ok p ∷ more) =
    Ok (part_of p (not (slice_index_or seen p.option.kind false))) ∷ marked (slice_set seen p.option.kind true) more
marked seen (Err refusal ∷ more) = Err refusal ∷ marked seen more

-- the data of the options of a kind
abbrev pub octets_among : ℕ → List PlacedAnswer → List (List ℕ)
octets_among kind [] = []
octets_among kind (Ok p ∷ more) =
    if p.option.kind == kind then p.option.body ∷ octets_among kind more else octets_among kind more
octets_among kind (Err refusal ∷ more) = octets_among kind more
