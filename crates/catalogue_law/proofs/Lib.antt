pub mod Basics
pub mod Encoding
pub mod Sound
pub mod Reading
pub mod Laws
