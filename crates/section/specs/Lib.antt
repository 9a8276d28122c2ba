pub mod State
pub mod Extended
pub mod Opening
pub mod Closing
pub mod Fits
pub mod Accessing
