-- DHCP says what its messages say.
use Rattle.packet_stats.proofs.stats.Stats.count_service.Goals as goal

pub returns-in-Dhcp-clause-counts : goal.returns-in-Dhcp-clause-counts
returns-in-Dhcp-clause-counts c = rw c.in-Dhcp.is c.count_dhcp.ensures.counts

pub returns-in-Dhcp-clause-fault : goal.returns-in-Dhcp-clause-fault
returns-in-Dhcp-clause-fault c = rw c.in-Dhcp.is c.count_dhcp.ensures.fault
