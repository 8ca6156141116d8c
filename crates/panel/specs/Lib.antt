pub mod State
pub mod PowerUp
pub mod Display
pub mod Read
pub mod Execute
