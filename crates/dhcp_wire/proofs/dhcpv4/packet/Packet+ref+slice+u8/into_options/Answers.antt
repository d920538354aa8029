use Rattle.dhcp_wire.proofs.Words.{List, Options, ℕ, inner, subst, sym, take_rest}
use Rattle.dhcp_wire.proofs.dhcpv4.packet.Packet+ref+slice+u8.into_options.Goals as goal

pub returns-clause-options : goal.returns-clause-options
returns-clause-options c =
    subst (λ (bytes : List ℕ). Options bytes c.new.result) (take_rest (inner c.args.self).now 240)
    c.new.ensures.options

pub returns-clause-unique : goal.returns-clause-unique
returns-clause-unique c others options =
    c.new.ensures.unique others
    (subst (λ (bytes : List ℕ). Options bytes others) (sym (take_rest (inner c.args.self).now 240)) options)
