pub mod Ready
pub mod Holds
pub mod Pushes
pub mod Sends
pub mod Receives
