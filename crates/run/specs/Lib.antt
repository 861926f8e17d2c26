pub mod Run
pub mod Promises
pub mod Only
pub mod Parts
pub mod FirstBytes
pub mod Struck
pub mod Printed
pub mod Transcribed
