pub mod Requests
pub mod Histories
pub mod Assigning
pub mod Meeting
pub mod Telling
pub mod Sizes
