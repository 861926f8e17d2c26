pub mod Entries
pub mod Log
pub mod LogLaws
pub mod Buffers
pub mod BufferLaws
pub mod Promises
