pub mod Made
pub mod Words
