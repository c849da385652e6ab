-- Each step of the machine leaves a connection lawful.
pub mod Lists
pub mod Acts
pub mod Steps
pub mod Idle
pub mod Doing
pub mod Items
pub mod Taking
