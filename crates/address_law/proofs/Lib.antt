pub mod Basics
pub mod Conventions
pub mod Words
pub mod Leading
pub mod Reaching
