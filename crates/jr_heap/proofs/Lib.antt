pub mod Calling
pub mod StayFacts
pub mod Reserving
pub mod Filling
pub mod Headers
pub mod KnownHeaders
mod Checks
pub mod Elements
pub mod Parts
mod ReadParts
mod NumberSearch
mod Publishing
pub mod HeaderThenElement
mod Lists
