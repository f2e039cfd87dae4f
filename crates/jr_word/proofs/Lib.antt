pub mod Limits
pub mod OneWord
