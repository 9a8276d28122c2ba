pub mod Convention
pub mod Aimed
pub mod Address
pub mod Access
pub mod Held
pub mod Machine
