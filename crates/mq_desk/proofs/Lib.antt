pub mod Answering
pub mod Others
pub mod Mine
