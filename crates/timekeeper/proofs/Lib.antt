pub mod Bcd
pub mod Clock
pub mod Apart
pub mod Alarm
pub mod Judged
pub mod Values
