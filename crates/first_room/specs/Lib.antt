-- What the program promises.
pub mod Calls
pub mod Hour
