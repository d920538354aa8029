pub mod Entries
pub mod Escapes
pub mod Lines
pub mod NameParts
pub mod NameReading
pub mod NameReads
pub mod Parts
pub mod Pieces
