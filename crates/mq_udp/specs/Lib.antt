pub mod Asked
pub mod Ends
pub mod Input
pub mod Inputs
pub mod Moves
pub mod Talks
pub mod Exchanges
pub mod Udp
