pub mod Gathered
pub mod Sums
pub mod Taking
pub mod Forming
