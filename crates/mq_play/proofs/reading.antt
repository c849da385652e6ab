pub mod Lacking
pub mod Hexes
pub mod Texts
pub mod Parted
pub mod Words
pub mod Singles
pub mod Once
