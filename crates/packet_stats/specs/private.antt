pub mod Mentions
pub mod Places
pub mod Sums
pub mod Widths
