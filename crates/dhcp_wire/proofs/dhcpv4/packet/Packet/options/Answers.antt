use Rattle.dhcp_wire.proofs.Words.{◌∙◌, List, Options, ℕ, ap, drop, subst, sym, take_rest}
use Rattle.dhcp_wire.proofs.dhcpv4.packet.Packet.options.Goals as goal

pub returns-clause-options : goal.returns-clause-options
returns-clause-options g c =
    subst (λ (bytes : List ℕ). Options bytes c.new.result)
    (take_rest c.octets.result.now 240 ∙ ap (λ (bytes : List ℕ). drop 240 bytes) c.octets.ensures)
    c.new.ensures.options

pub returns-clause-unique : goal.returns-clause-unique
returns-clause-unique g c others options =
    c.new.ensures.unique others
    (subst (λ (bytes : List ℕ). Options bytes others)
    (sym (take_rest c.octets.result.now 240 ∙ ap (λ (bytes : List ℕ). drop 240 bytes) c.octets.ensures)) options)
