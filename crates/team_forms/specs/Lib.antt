pub mod Seats
pub mod Sessions
pub mod Pairs
pub mod Teamwork
pub mod Operands
pub mod Teams
pub mod TeamLoads
pub mod Forms
