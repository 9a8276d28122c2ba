pub mod Accepted
pub mod Matching
pub mod Accessing
pub mod Patching
pub mod Calls
pub mod Closing
pub mod Faithfulness
pub mod Plugged
