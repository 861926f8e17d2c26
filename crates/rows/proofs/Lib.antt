pub mod Place
pub mod First
pub mod Insert
