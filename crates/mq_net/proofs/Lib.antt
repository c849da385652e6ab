pub mod Stores
pub mod Sims
