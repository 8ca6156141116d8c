pub mod Search
pub mod Match
pub mod Reached
