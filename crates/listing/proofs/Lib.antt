pub mod Addresses
pub mod Printing
pub mod Walking
pub mod Words
