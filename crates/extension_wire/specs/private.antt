pub mod Mpls
pub mod Objects
