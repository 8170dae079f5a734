pub mod Holding
pub mod Dictionaries
pub mod Answers
pub mod Causes
pub mod Faults
pub mod Fronts
pub mod Marks
