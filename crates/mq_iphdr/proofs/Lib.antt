pub mod Echoes
pub mod Hops
pub mod Hosts
pub mod Sums
pub mod Taken
pub mod Walking
