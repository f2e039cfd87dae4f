pub mod Slides
pub mod Listed
pub mod Noted
pub mod Together
pub mod Bringing
pub mod Compacts
pub mod Counting
