pub mod Listing
pub mod Owners
pub mod PoolRooms
pub mod Pools
pub mod Started
