mod Alone
mod Announcing
mod Closing
mod Withdrawing
pub mod SameRoom
pub mod Spending
pub mod HandedOn
