pub mod Operands
pub mod Failures
pub mod Due
pub mod Ends
pub mod Forms
pub mod EndLaws
pub mod DueLaws
