pub mod Word
pub mod Bits
pub mod Laws
pub mod Widths
pub mod Promises
