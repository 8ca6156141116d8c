pub mod Search
pub mod Match
pub mod Skip
pub mod Reached
