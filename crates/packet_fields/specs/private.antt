pub mod Colons
pub mod Entries
pub mod TextRuns
