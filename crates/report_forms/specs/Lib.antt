pub mod Operands
pub mod Listings
pub mod Due
pub mod Forms
pub mod Given
