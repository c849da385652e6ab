pub mod Asks
pub mod Keys
pub mod Staying
