pub mod Again
pub mod Areas
pub mod Bytes
pub mod Low
pub mod Outlines
pub mod Readings
pub mod Splitting
pub mod Stepping
pub mod Templates
mod Escapes
