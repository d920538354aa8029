pub mod ExtensionEntries
pub mod Gateways
pub mod InterfaceEnds
pub mod Items
pub mod Quotes
pub mod Structures
