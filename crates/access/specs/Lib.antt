pub mod Written
pub mod Specimens
