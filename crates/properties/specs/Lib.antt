pub mod Causes
pub mod Ticks
