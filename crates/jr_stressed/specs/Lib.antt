pub mod Refusals
pub mod Drawing
pub mod Laws
pub mod Stressing
