use Rattle.dhcp_wire.proofs.Dhcpv4Lists.{list-options, options-unique}
use Rattle.dhcp_wire.proofs.dhcpv4.options.OptionsIter.new.Goals as goal

pub returns-clause-options : goal.returns-clause-options
returns-clause-options c = list-options c.args.octets.now

pub returns-clause-unique : goal.returns-clause-unique
returns-clause-unique c others options = options-unique _ _ _ (list-options c.args.octets.now) options
