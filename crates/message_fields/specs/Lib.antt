pub mod Checksums
pub mod Icmp
pub mod Messages
pub mod Refusals
pub mod Udp
pub mod private
