pub mod Sixteen
pub mod Joined
pub mod Search
pub mod Whole
pub mod Fits
pub mod Frame
