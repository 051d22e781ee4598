pub mod Records
pub mod Rolling
pub mod Text
