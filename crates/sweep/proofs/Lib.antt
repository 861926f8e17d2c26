pub mod AtOnce
pub mod Onward
