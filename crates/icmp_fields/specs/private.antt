pub mod Entries
pub mod Names
pub mod Reasons
pub mod Told
