pub mod Parts
pub mod Reader
pub mod Taken
pub mod Unit
