-- ONE THREAD IS A CASE of what several threads mean: with nobody between, luck counts for copies alone.
pub mod Leads
pub mod OwnWords
pub mod Collections
pub mod OneCase
pub mod HeardByAll
pub mod AsOneOfAll
pub mod LoneMeans
