pub mod Dhcpv4OptionsAhead
pub mod Dhcpv4Writing
pub mod Parts
