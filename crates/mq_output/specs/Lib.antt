pub mod Printing
pub mod Joined
