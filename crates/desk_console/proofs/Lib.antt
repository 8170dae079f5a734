pub mod Cuts
pub mod Told
pub mod LoadLemmas
