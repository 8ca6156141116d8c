pub mod Codes
pub mod Refusals
pub mod Decode
pub mod Holds
