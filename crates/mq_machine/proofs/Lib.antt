pub mod Settling
pub mod Turns
pub mod Silents
pub mod Told
pub mod Readings
pub mod Quiets
pub mod Samples
mod Frames
pub mod Lawful
pub mod Placing
