pub mod Form
pub mod Table
pub mod Encode
pub mod Instr
pub mod Encoders
pub mod Specimens
