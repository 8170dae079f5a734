pub mod ToldBy
pub mod Eyes
