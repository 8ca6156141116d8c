pub mod Script
pub mod Failure
