pub mod Settle
pub mod Settled
