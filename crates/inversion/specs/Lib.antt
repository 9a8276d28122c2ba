pub mod Inversion
