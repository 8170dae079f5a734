pub mod Prefixes
pub mod Appending
pub mod Counting
pub mod Knowing
pub mod Sums
pub mod Endings
pub mod Claiming
