pub mod Lists
pub mod Merging
pub mod Timing
pub mod Histories
pub mod OneOrder
