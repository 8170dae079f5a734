pub mod Lines
pub mod Fields
pub mod Texts
pub mod Laws
pub use Rattle.lists.specs as lists
