pub mod Bcd
pub mod Clock
pub mod Alarm
pub mod Commit
