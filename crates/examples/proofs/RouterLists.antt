-- What options tell, one after another.
use Rattle.std.proofs.Common.{◌≡◌, inl, inr, List, Some, Result, Ok, Err, refl, subst}
use Rattle.control_wire.specs.Ipv6AddressType.{Ipv6Address}
use Rattle.neighbor_wire.specs.Options.{Answer, GivesOption}
use Rattle.neighbor_wire.specs.declared.option.NeighborOption.{NeighborOption}
use Rattle.neighbor_wire.specs.declared.refusal.Refusal.{Refusal}
use Rattle.examples.specs.RouterList.{Learns, LearnsAll, Lists, cut, option, refused}

-- an option, and what is told behind it
pub learns_more : (source : Ipv6Address) (old between new : Lists) (before behind : List Answer)
    (given : Result NeighborOption Refusal) (told : NeighborOption) → given ≡ Ok told
    → GivesOption before (Some given) behind → Learns source told old between → LearnsAll source behind between new
    → LearnsAll source before old new
learns_more source old between new before behind given told is gives learns all =
    let it = subst (λ (r : Result NeighborOption Refusal). GivesOption before (Some r) behind) is gives in
    rw it.2 (option it.0 told it.1 learns all)

-- a refusal, and what is told behind it
pub passes_over : (source : Ipv6Address) (old new : Lists) (before behind : List Answer)
    (given : Result NeighborOption Refusal) → ((told : NeighborOption) → given ≡ Ok told → ⊥)
    → GivesOption before (Some given) behind → LearnsAll source behind old new → LearnsAll source before old new
passes_over source old new before behind (Ok told) other gives all = absurd (other told refl)
passes_over source old new before behind (Err why) other (inl is) all = rw is (cut why all)
passes_over source old new before behind (Err why) other (inr refuses) all =
    rw refuses.2 (refused refuses.0 why refuses.1 all)
