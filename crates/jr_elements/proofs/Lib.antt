pub mod CopiedParts
pub mod Buffers
