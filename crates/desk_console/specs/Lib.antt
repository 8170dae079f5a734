pub mod Consoles
pub mod Starts
