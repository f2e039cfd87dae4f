pub mod Acts
pub mod Holdings
pub mod Says
pub mod Knowing
pub mod Collecting
