mod Zero
mod Tests
pub mod Laws
