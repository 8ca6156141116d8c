pub mod Segments
pub mod Faces
pub mod Shown
pub mod Pins
pub mod Examples
