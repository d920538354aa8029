pub mod OneField
pub mod RecordsInTurn
pub mod SearchNames
pub mod Told
pub mod Zeros
