pub mod Trouble
pub mod Answer
pub mod Check
pub mod Describe
pub mod Request
pub mod Act
pub mod Meant
