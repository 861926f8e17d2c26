pub mod Stages
pub mod OneByte
pub mod Through
pub mod PowerCut
pub mod File
pub mod Instances
pub mod Wrong
