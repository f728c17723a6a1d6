pub mod Names
pub mod Agrees
pub mod Pinned
