pub mod Calls
pub mod Streams
pub mod Links
pub mod Ports
pub mod Nets
pub mod Mails
pub mod Offices
pub mod Outsides
