pub mod Decided
pub mod Calls
pub mod Commands
