pub mod Ahead
pub mod Areas
pub mod Fields
pub mod Fronts
pub mod Marks
