pub mod Configure
pub mod Write
pub mod Clear
pub mod Execute
