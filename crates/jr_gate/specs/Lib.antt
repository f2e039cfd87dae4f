pub mod Acting
pub mod Announcing
pub mod Stays
pub mod Performing
