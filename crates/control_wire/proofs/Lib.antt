-- Lemmas for callers: the labels that a walk gives, the greatest number of two bytes, and that addresses with equal
-- octets are equal.
pub use Rattle.dns_wire.proofs.DnsNameLabels
pub use Rattle.wirebase.proofs.ByteParts
pub use Rattle.wirebase.proofs.HardwareAddresses
pub use Rattle.wirebase.proofs.Ipv6Header
