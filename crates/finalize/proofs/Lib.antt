pub mod Finalizing
