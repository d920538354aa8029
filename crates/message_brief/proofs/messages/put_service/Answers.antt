-- Each by its own function.
use Rattle.message_brief.proofs.messages.put_service.Goals as goal

pub returns-in-Dns : goal.returns-in-Dns
returns-in-Dns g c = rw c.in-Dns.is c.put_dns.ensures

pub returns-in-Mdns : goal.returns-in-Mdns
returns-in-Mdns g c = rw c.in-Mdns.is c.put_dns-in-Mdns.ensures

pub returns-in-Llmnr : goal.returns-in-Llmnr
returns-in-Llmnr g c = rw c.in-Llmnr.is c.put_dns-in-Llmnr.ensures

pub returns-in-Nbns : goal.returns-in-Nbns
returns-in-Nbns g c = rw c.in-Nbns.is c.put_dns-in-Nbns.ensures

pub returns-in-Dhcp : goal.returns-in-Dhcp
returns-in-Dhcp g c = rw c.in-Dhcp.is c.put_dhcp.ensures
