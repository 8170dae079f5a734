pub mod ConsoleCommands
pub mod ConsoleLoads
pub mod ConsoleViews
pub mod TranscriptLaws
pub mod LineLemmas
