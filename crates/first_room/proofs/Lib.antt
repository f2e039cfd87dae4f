-- Lemmas of the program.
pub mod Arrays
pub mod Played
pub mod ReadIsWritten
pub mod Texts
pub mod Touching
pub mod Traces
