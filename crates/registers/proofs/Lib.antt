pub mod Kept
pub mod Written
pub mod Reserved
pub mod Watchdog
