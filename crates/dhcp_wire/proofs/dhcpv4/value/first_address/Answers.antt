-- The address at the front.
use Rattle.dhcp_wire.proofs.Words.{◌∙◌, ◌∷◌, ◌≡◌, Ipv4Address, List, ℕ, addresses_in, ap, arith, common_steps, drop}
use Rattle.dhcp_wire.proofs.Words.{first_address, rules, sym}
use Rattle.dhcp_wire.proofs.Dhcpv4OptionAddresses.{addresses_short, addresses_more}
use Rattle.dhcp_wire.proofs.dhcpv4.value.first_address.Goals as goal

pub returns-then-octets-lt4-clause-none : goal.returns-then-octets-lt4-clause-none
returns-then-octets-lt4-clause-none c = λ _. addresses_short c.args.octets.now c.if-octets-lt4.true

pub returns-clause-some : goal.returns-clause-some
returns-clause-some c =
    let octets = c.args.octets.now in
    let first : first_address octets ≡ c.new-address.result = first_of (search rules, grind (arith, common_steps)) in
    addresses_more octets c.if-octets-lt4.false
    ∙ (ap (λ (a : Ipv4Address). a ∷ addresses_in (drop 4 octets)) first
    ∙ ap (λ (rest : List ℕ). c.new-address.result ∷ addresses_in rest) (sym c.past_address.ensures))
