pub mod State
pub mod Standby
pub mod Tick
pub mod Keys
pub mod Remote
pub mod Pins
pub mod PowerUp
pub mod Sound
