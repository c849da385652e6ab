pub mod Areas
pub mod Decisions
pub mod Goals
pub mod Names
pub mod Rules
pub mod Tables
