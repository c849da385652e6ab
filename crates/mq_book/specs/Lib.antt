pub mod Journal
pub mod Laws
pub mod Stand
pub mod Treat
