pub mod SlashLemmas
pub mod TextLemmas
