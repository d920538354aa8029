pub mod Directions
pub mod Places
pub mod Sums
