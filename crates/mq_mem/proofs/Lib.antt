pub mod Lists
pub mod Unread
pub mod Telling
pub mod Boxes
pub mod Hosts
