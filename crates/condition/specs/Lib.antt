pub mod Conditions
pub mod Masks
