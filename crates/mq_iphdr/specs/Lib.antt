pub mod Onward
pub mod Echo
