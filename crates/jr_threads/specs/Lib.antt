pub mod Closing
pub mod Listing
pub mod Parts
pub mod Sites
pub mod Starting
