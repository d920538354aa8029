pub mod EncodedNames
pub mod Entries
pub mod NodeTexts
pub mod TextLists
