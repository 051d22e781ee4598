pub mod Answering
pub mod Unstopped
pub mod Checked
pub mod OneCheck
pub mod Found
pub mod Metadata
pub mod Gathering
