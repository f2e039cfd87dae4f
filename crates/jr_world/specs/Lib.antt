pub mod World
pub mod Births
pub mod Fullness
pub mod Doing
pub mod Board
pub mod Plays
pub mod Playing
pub mod Schedules
