pub mod Refusals
pub mod Accepted
pub mod Answers
pub mod Examples
