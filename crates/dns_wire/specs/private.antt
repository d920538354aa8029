pub mod DnsNameAhead
pub mod Parts
