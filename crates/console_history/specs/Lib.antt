pub mod Told
pub mod Followed
