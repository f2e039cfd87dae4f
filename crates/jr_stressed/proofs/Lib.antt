mod Begun
mod Listed
