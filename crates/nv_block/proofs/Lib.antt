pub mod OwnersAt
pub mod Chains
pub mod AllOwners
pub mod HexRows
pub mod Told
