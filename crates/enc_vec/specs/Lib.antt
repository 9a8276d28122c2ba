pub mod Rxb
