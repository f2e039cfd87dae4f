mod Beside
mod Makers
