pub mod Compacting
pub mod Counting
pub mod Noting
pub mod Sliding
