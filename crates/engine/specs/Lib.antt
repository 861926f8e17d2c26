pub mod Part
pub mod Only
