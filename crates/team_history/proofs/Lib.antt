pub mod Steps
pub mod Cuts
pub mod Askers
pub mod Ends
