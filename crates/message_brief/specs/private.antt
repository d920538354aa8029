pub mod DnsValues
pub mod Options
