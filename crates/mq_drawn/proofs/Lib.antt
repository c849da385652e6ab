pub mod Moving
pub mod Chain
pub mod Bytes
pub mod Begun
pub mod Drawn
