pub mod Telling
pub mod Stages
pub mod Listening
pub mod Playing
pub mod Reading
pub mod Replay
pub mod Standard
