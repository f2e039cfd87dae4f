mod Collected
mod Dumped
mod Owners
mod Pools
