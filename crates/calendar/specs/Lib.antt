pub mod Sums
pub mod Date
pub mod Clock
pub mod Carry
