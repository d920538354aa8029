pub mod Display
pub mod Family
pub mod Membership
pub mod Record
pub mod Records
pub mod Sources
pub mod Times
pub mod Writer
