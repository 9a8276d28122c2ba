pub mod Numbers
pub mod Wide
pub mod Laws
pub mod InRange
pub mod Field
