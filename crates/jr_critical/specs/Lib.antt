pub mod Levels
pub mod LevelParts
pub mod Finding
