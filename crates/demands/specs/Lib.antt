pub mod Event
pub mod Exact
pub mod Standby
pub mod Clock
