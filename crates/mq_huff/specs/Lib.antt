pub mod Answer
pub mod Code
pub mod Coded
pub mod Encoded
pub mod Laws
pub mod State
