pub mod Sent
pub mod Looking
pub mod LookingByNumber
pub mod Gathered
pub mod Catting
pub mod Archiving
