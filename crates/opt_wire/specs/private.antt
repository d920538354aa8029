pub mod Ipv6OptionModel
pub mod NdiscOptionBlocks
