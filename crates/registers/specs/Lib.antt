pub mod Names
pub mod Written
pub mod Watchdog
