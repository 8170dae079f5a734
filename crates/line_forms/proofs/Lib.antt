pub mod Readings
pub mod Numbered
pub mod Seats
pub mod Nothing
pub mod Closings
pub mod DialogueLemmas
