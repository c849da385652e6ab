pub mod Asking
pub mod Closing
pub mod Histories
pub mod Moves
pub mod Sharing
pub mod Words
