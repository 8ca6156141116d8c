pub mod Sound
pub mod Returns
