pub mod Helds
pub mod Fronts
pub mod Books
pub mod Cores
pub mod Opened
pub mod Tunnels
pub mod Places
pub mod InRing
pub mod Lists
pub mod Going
pub mod Writing
mod Asking
mod Searches
mod Shapes
mod Beside
mod Replies
mod Telling
pub mod Placing
mod Behind
mod Ending
mod Emptying
mod Starving
pub mod Refilled
pub mod SoFar
pub mod OwnPorts
pub mod Passings
pub mod Pointwise
pub mod Turning
pub mod Between
pub mod Neighbours
pub mod Noting
pub mod Lefts
pub mod Acted
pub mod Outcomes
pub mod Turns
pub mod Passes
pub mod Stages
pub mod Kept
mod Brought
pub mod Parcels
pub mod Calm
pub mod Others
pub mod Coming
pub mod Returning
pub mod Offering
pub mod Apart
pub mod Sighted
pub mod Sights
pub mod Plain
mod Leaving
mod Rising
mod Beginnings
pub mod Lending
pub mod Lends
pub mod Able
