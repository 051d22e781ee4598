pub mod Contents
pub mod Known
pub mod Lines
pub mod Places
pub mod Streams
