pub mod Same
pub mod Read
pub mod Written
