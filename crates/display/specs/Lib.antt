pub mod Font
pub mod Hours
pub mod Face
pub mod Shown
pub mod Lines
