pub mod SoundParts
pub mod Sound
pub mod Raised
pub mod Steps
pub mod Standby
pub mod Kept
pub mod Guard
