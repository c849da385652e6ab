pub mod Notes
pub mod Links
pub mod Ports
pub mod Ready
pub mod Frames
pub mod Seats
pub mod Answers
pub mod Packets
