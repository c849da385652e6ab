pub mod Lists
pub mod Going
pub mod Cutting
pub mod Shows
pub mod Sourced
pub mod Ending
pub mod Whole
pub mod Visible
