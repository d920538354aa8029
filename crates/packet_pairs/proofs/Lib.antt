pub mod Bounds
pub mod Found
pub mod Pairing
pub mod Places
pub mod Sums
