pub mod Keys
pub mod Frames
