pub mod Digits
pub mod Encoded
pub mod Given
pub mod Padded
