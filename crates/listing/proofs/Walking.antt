-- What the walk over a name prints, an answer at a time.
use Rattle.listing.proofs.Words.{◌≡◌, [], ◌∷◌, ◌++◌, List, Ok, Option, Result, Some, ℕ, answers_listing}
use Rattle.listing.proofs.Words.{ap, line, octets_text, refl, slice_get}
use Rattle.std.specs.Borrow.{Bor}
use Rattle.wirebase.specs.declared.error.Error.{Error}
use Rattle.dns_wire.specs.DnsNameWalk.{Coming, Walk, GivesFirst, answer_of}

-- the first of the answers, by the result of a call
first_listing : (ahead : List Coming) (result : Option (Result (Bor (List ℕ)) Error)) (steps : ℕ)
    → slice_get ahead 0 ≡ Some (record { answer = answer_of result; steps = steps })
    → (rest : List Coming) × (ahead ≡ record { answer = answer_of result; steps = steps } ∷ rest)
first_listing [] result steps first = absurd (cc first)
first_listing (c ∷ cs) result steps first = (cs, ap (λ c. c ∷ cs) (cc first))

pub listing-label : (old new : Walk) (octets : Bor (List ℕ)) → GivesFirst old (Some (Ok octets)) new
    → answers_listing old.ahead ≡ line (octets_text octets.now) ++ answers_listing new.ahead
listing-label old new octets gives =
    let cut = first_listing old.ahead (Some (Ok octets)) new.steps gives.first in
    rw (gives.rest, cut.1) refl
