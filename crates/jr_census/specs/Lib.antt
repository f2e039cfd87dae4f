pub mod Counts
pub mod Dumps
pub mod Taking
pub mod Laws
pub mod Printed
pub mod Telling
