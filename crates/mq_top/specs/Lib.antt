pub mod Generates
pub mod Tallies
pub mod Joined
pub mod Soaking
pub mod Asking
