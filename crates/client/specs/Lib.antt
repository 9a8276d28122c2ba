pub mod Routine
pub mod Calls
