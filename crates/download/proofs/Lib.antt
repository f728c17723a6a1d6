pub mod Covering
pub mod Pinned
