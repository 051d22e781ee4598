pub mod Standing
pub mod Made
