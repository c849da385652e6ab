pub mod Words
pub mod Reading
pub mod Settings
pub mod Generated
pub mod Left
pub mod Laws
pub mod Counting
