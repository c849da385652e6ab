pub mod Serving
pub mod Places
pub mod QueueLists
pub mod Wanting
pub mod Framing
pub mod Feeding
mod Standing
mod Answering
mod Hearing
mod Passing
mod Ready
mod Valuing
mod Opening
mod Parcels
