pub mod Imms
pub mod Registers
