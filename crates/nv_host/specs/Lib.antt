pub mod Found
pub mod Names
pub mod Places
pub mod Links
pub mod Items
pub mod Walking
