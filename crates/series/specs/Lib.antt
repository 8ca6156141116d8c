pub mod Series
pub mod Demand
