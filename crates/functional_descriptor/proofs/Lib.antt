pub mod Agrees
pub mod Pinned
