pub mod Plain
pub mod Served
pub mod Coming
pub mod Taking
