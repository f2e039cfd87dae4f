-- COMMANDS THAT STAND IN ONE ROW print its text.
pub mod Alike
pub mod Follows
pub mod Blind
pub mod Goes
pub mod Parts
pub mod Programs
pub mod Collections
pub mod Calls
pub mod Shapes
pub mod Ends
pub mod Rows
pub mod Swaps
pub mod Spoilt
pub mod Standing
pub mod Firsts
pub mod Turns
pub mod OneText
