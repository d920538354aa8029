pub mod Areas
pub mod Joined
pub mod Overload
pub mod Parts
pub mod PartsDisplay
pub mod Words
pub mod private
