pub mod Leasts
pub mod Skips
