pub mod Counting
pub mod Pieces
pub mod Prepared
pub mod Reach
pub mod Rests
