pub mod Cutting
pub mod Decimals
