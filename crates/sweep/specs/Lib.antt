pub mod Sum
pub mod Blocks
pub mod Filled
