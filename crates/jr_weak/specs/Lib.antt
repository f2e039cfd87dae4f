pub mod Marks
pub mod Marking
pub mod Markers
pub mod Sweeping
pub mod Collecting
pub mod Counting
pub mod Waiting
pub mod Listing
