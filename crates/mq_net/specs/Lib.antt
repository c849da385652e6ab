pub mod Sims
pub mod Stores
pub mod Hosts
