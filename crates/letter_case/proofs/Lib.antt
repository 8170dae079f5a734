pub mod Repeats
pub mod Rule
pub mod Ascii
pub mod SharpLemmas
pub mod MostWords
