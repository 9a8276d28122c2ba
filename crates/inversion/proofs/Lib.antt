pub mod Orders
pub mod Fields
pub mod Rows
pub mod Inversion
