pub mod Operands
pub mod Requests
pub mod Forms
