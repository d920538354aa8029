pub mod Dhcp
pub mod Header
pub mod Options
pub mod Refusal
pub mod Texts
pub mod private
