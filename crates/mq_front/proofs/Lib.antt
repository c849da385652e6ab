pub mod Limits
pub mod ItemLists
mod Pieces
pub mod Values
pub mod Tables
mod Asking
mod OneStream
mod Starts
mod Sizes
mod Apart
mod Fronts
