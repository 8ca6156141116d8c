pub mod Numbers
pub mod Laws
pub mod Bytes
mod Copy
