pub mod Numbers
pub mod Refusals
pub mod Names
pub mod Tests
