pub mod Inventory
pub mod Section
pub mod Matching
pub mod Law
