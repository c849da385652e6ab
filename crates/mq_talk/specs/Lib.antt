pub mod Answers
pub mod Book
pub mod Config
pub mod Judging
pub mod Mails
pub mod Offices
pub mod Packets
