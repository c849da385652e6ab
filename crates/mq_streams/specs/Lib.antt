pub mod Answers
pub mod Balance
pub mod History
pub mod Rows
pub mod Stand
pub mod Takers
pub mod Windows
