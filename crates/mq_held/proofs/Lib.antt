pub mod Writing
pub mod Reading
pub mod Sending
pub mod Receiving
pub mod Fronts
pub mod Streams
pub mod Asked
pub mod Seating
mod Telling
