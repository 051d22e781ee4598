pub mod AllLooks
pub mod Asked
pub mod Regions
pub mod Looks
pub mod BlockLooks
pub mod AskedRows
pub mod RowLooks
pub mod Tops
