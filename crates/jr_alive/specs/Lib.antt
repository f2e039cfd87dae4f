pub mod Graph
pub mod Places
pub mod Handles
pub mod Retained
pub mod Groups
pub mod Laws
pub mod Searching
