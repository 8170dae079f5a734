pub mod Dictionaries
pub mod Extended
pub mod Faults
pub mod Items
pub mod Lists
pub mod Models
