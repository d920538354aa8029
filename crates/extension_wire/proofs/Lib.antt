pub mod ObjectFormat
pub mod ObjectsAhead
pub mod InterfaceFormat
pub mod InterfacePartsRead
pub mod Labels
pub mod Splits
pub mod WriterFormat
