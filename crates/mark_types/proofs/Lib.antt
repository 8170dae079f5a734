pub mod Cutting
pub mod Standing
pub mod Locality
