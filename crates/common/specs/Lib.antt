pub mod Grounds
pub mod Tests
pub mod Fill
pub mod Bits
pub mod Spell
pub mod Refused
