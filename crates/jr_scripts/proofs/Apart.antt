-- THREADS THAT SHARE NOTHING print as alone: each thread's program among others' steps beside its program alone, where
-- numbers of references and objects stand for others.
pub mod Numbers
pub mod Mirrors
pub mod Leads
pub mod Goes
pub mod Places
pub mod Parts
pub mod Writes
pub mod Elements
pub mod Programs
pub mod Grown
pub mod Rooms
pub mod Makes
pub mod Names
pub mod Kinds
pub mod Calls
pub mod Lines
pub mod Threads
pub mod AsAlone
