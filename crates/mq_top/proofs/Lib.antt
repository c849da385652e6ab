pub mod Generating
pub mod Asked
pub mod Tallying
pub mod Counting
