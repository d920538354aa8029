pub mod Bounds
pub mod Headers
pub mod Marks
pub mod Orders
pub mod Places
