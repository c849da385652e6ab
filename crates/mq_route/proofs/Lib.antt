pub mod Meets
pub mod Merge
pub mod Ordered
