pub mod Classes
pub mod Shifts
