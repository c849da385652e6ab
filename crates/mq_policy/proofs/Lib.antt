pub mod Decided
pub mod Firsts
pub mod Trees
pub mod Versions
