pub mod Prefixes
pub mod Later
pub mod Known
pub mod Shown
pub mod Left
pub mod Closing
pub mod OneByOne
pub mod Kept
