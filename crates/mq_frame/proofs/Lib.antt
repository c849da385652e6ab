pub mod Fronts
pub mod Steps
pub mod Streams
pub mod Readers
pub mod Writing
pub mod Told
pub mod Fitting
