pub mod Breaking
pub mod Trees
pub mod Tables
pub mod Deciding
pub mod Texts
pub mod OccurrenceWays
pub mod Prepared
