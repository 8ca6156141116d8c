pub mod Sums
pub mod Date
pub mod Moved
pub mod Carry
