pub mod Loop
pub mod Ways
