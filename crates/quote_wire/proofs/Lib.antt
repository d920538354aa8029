pub mod ErrorFormat
pub mod Headers
pub mod Icmpv4Errors
pub mod Icmpv6Errors
