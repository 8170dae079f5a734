pub mod Knowing
pub mod Showing
pub mod Ends
pub mod Settling
