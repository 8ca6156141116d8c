pub mod Show
pub mod Update
