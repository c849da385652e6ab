pub mod Capsule
pub mod Spelling
pub mod Items
pub mod Fronts
pub mod Steps
pub mod Readers
pub mod Writing
pub mod Laws
