pub mod Fragments
pub mod Options
pub mod Routers
