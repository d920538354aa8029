-- Headers that extend IPv6 follow one another.
use Rattle.std.proofs.Common.{◌≡◌, List, Option, ℕ, drop, subst}
use Rattle.std.specs.Prelude.{slice_index}
use Rattle.wirebase.specs.Ip.{protocol_of}
use Rattle.wirebase.specs.declared.ip.IpProtocol.{IpProtocol}
use Rattle.quote_wire.specs.Upper.{EndsAt, LeadsTo, UpperValue, past}

-- what headers lead to from here on, they lead to from the first on
pub record SoFar (begin : IpProtocol) (all : List ℕ) (p : IpProtocol) (rest : List ℕ) : Type 0 where
  pub leads : (u : Option UpperValue) → LeadsTo p rest u → LeadsTo begin all u

pub so_far-init : (p : IpProtocol) (all : List ℕ) → SoFar p all p all
so_far-init p all = record { leads = λ u h. h }

pub so_far-more : (begin : IpProtocol) (all : List ℕ) (p : IpProtocol) (rest : List ℕ) (q : IpProtocol)
    (behind : List ℕ) (end : ℕ) → SoFar begin all p rest → EndsAt p rest end → q ≡ protocol_of (slice_index rest 0)
    → behind ≡ drop end rest → SoFar begin all q behind
so_far-more begin all p rest q behind end so ends e b = record {
  leads = λ u h.
      so.leads u (past end ends (subst (λ (l : List ℕ). LeadsTo (protocol_of (slice_index rest 0)) l u) b
      (subst (λ (x : IpProtocol). LeadsTo x behind u) e h)));
}
