pub mod EntryTable
pub mod HashLaws
pub mod Hashes
pub mod TextLaws
