pub mod Calendar
pub mod Daily
pub mod Computed
pub mod Readings
