pub mod Files
pub mod Memory
pub mod Sink
pub mod Source
pub mod Laws
pub use Rattle.lists.specs as lists
