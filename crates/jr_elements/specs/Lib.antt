pub mod Copies
pub mod LentElements
