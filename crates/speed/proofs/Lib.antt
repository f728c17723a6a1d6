pub mod Few
pub mod Turns
pub mod Pinned
