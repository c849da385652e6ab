pub mod Addr
pub mod Aligned
pub mod Block
pub mod Cover
pub mod Packet
pub mod Prefixes
pub mod Printed
pub mod Ranges
